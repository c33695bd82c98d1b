-- What the iterator of directives still has to give.
use Rattle.std.specs.Prelude.{List, drop, Result}
use Rattle.directives.specs.Said.{Said}
use Rattle.directives.specs.Words.{text_says}
use Rattle.directives.specs.declared.item.BadDirective.{BadDirective}
use Rattle.directives.specs.declared.reader.Directives.{Directives}

abbrev pub items_left : Directives → List (Result Said BadDirective)
items_left reader = text_says reader.at (drop reader.at reader.text.now)
