mod WorldLemmas
mod WorkedWorld
