use Rattle.std.proofs.Common.{◌≡◌, ◌≤◌, fold, take, true}
use Rattle.std.specs.Char.{is_digit}
use Rattle.std.specs.List.{list_all}
use Rattle.directives.specs.Number.{more_digits}
use Rattle.directives.proofs.number.digits_up_to.Given as goal

abbrev pub invariant-loop-digit : goal.invariant-loop-digit
invariant-loop-digit l = record {
  value : l.number ≡ fold (more_digits l.base) 0 (take l.digit-index l.text);
  digits : list_all (λ b. is_digit b l.base) (take l.digit-index l.text) ≡ true;
  within : l.number ≤ l.limit;
}
