-- The word for each kind of a refused command line, as a diagnostic prints it. Own.
use Rattle.std.specs.Prelude.{ℕ, List, codes}
use Rattle.link_words.specs.declared.errors.UsageKind.{UsageKind}
use Rattle.link_words.specs.declared.errors.UsageKind.TheVariants as usage

abbrev pub usage_word : UsageKind → List ℕ
usage_word usage.Command = codes "Command"
usage_word usage.Unknown = codes "Unknown"
usage_word usage.MissingValue = codes "MissingValue"
usage_word usage.BadValue = codes "BadValue"
usage_word usage.NoInput = codes "NoInput"
usage_word usage.Conflict = codes "Conflict"
