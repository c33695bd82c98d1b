-- A directive as plain data: what a borrowed one says.
use Rattle.std.specs.Prelude.{ℕ, List, Result, Ok, Err}
use Rattle.directives.specs.declared.item.Directive.{Directive}
use Rattle.directives.specs.declared.item.Directive.TheVariants as directive
use Rattle.directives.specs.declared.item.Export.{Export}
use Rattle.directives.specs.declared.item.BadDirective.{BadDirective}

pub data Said : Type 0 where
  AlignComm : List ℕ → ℕ → Said
  AlternateName : List ℕ → List ℕ → Said
  DefaultLib : List ℕ → Said
  Exports : Export → Said
  FailIfMismatch : List ℕ → List ℕ → Said
  Include : List ℕ → Said
  Merge : List ℕ → List ℕ → Said

-- what a directive says
abbrev pub said : Directive → Said
said (directive.AlignComm name log) = AlignComm name log
said (directive.AlternateName left right) = AlternateName left right
said (directive.DefaultLib text) = DefaultLib text.now
said (directive.Export row) = Exports row
said (directive.FailIfMismatch key value) = FailIfMismatch key value
said (directive.Include name) = Include name
said (directive.Merge left right) = Merge left right

-- what an item of the iterator says
abbrev pub item_said : Result Directive BadDirective → Result Said BadDirective
item_said (Ok one) = Ok (said one)
item_said (Err bad) = Err bad
