mod WorkedLoads
