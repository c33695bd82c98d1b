use Rattle.std.proofs.Common.{◌≡◌, ◌<◌, ◌^◌, true, take}
use Rattle.std.specs.List.{list_all}
use Rattle.link_base.specs.Decimal.{is_digit, decimal_value}
use Rattle.link_base.proofs.decimal.decimal_number.Given as goal

abbrev pub invariant-loop-digit : goal.invariant-loop-digit
invariant-loop-digit l = record {
  value : l.value ≡ decimal_value (take l.digit-index l.text);
  bound : l.value < 10 ^ l.digit-index;
  digits : list_all is_digit (take l.digit-index l.text) ≡ true;
}
