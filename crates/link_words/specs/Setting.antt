-- What one word of a link says by itself (MSVC linker reference, "Linker options"), or why it is refused. Own.
use Rattle.std.specs.Prelude.{ℕ, Bool, true, if◌then◌else◌, List, [], ◌∷◌, drop, Option, Some, None, option_map, option_and_then, Result, Ok, Err, codes}
use Rattle.std.specs.Option.{ok_or}
use Rattle.directives.specs.Said as directive
use Rattle.directives.specs.Said.{Said}
use Rattle.directives.specs.Text.{is_colon, begins_option, is_text, split_at_first}
use Rattle.directives.specs.Value.{value_said}
use Rattle.directives.specs.declared.item.Export.{Export}
use Rattle.link_words.specs.Known.{known}
use Rattle.link_words.specs.Values.{number_64, number_32, exactly, negated, sizes, version, subsystem, opts}
use Rattle.link_words.specs.declared.known.Known.{Known}
use Rattle.link_words.specs.declared.known.Known.TheVariants as option
use Rattle.link_words.specs.declared.errors.UsageKind.{UsageKind}
use Rattle.link_words.specs.declared.errors.UsageKind.TheVariants.{Unknown, MissingValue, BadValue}

pub data Setting : Type 0 where
  Input : List ℕ → Setting
  Alternate : List ℕ → List ℕ → Setting
  Merged : List ℕ → List ℕ → Setting
  DefaultLib : List ℕ → Setting
  Exported : Export → Setting
  Included : List ℕ → Setting
  LibPath : List ℕ → Setting
  NoDefault : List ℕ → Setting
  NoDefaultAll : Setting
  Debug : Setting
  Dll : Setting
  NoEntry : Setting
  Dynamic : Bool → Setting
  Entropy : Bool → Setting
  Nx : Bool → Setting
  Large : Bool → Setting
  Fixed : Bool → Setting
  Base : ℕ → Setting
  Entry : List ℕ → Setting
  Heap : ℕ × ℕ → Setting
  Stack : ℕ × ℕ → Setting
  MapFile : Option (List ℕ) → Setting
  ImpLib : List ℕ → Setting
  Optimize : Option Bool × Option Bool → Setting
  Out : List ℕ → Setting
  Pdb : List ℕ → Setting
  Subsystem : ℕ → Setting
  Time : ℕ → Setting
  Version : ℕ × ℕ → Setting
  Nothing : Setting

-- an option without a value: one that has no line here needs a value
abbrev pub bare_says : Known → Option Setting
bare_says option.Debug = Some Debug
bare_says option.Dll = Some Dll
bare_says option.NoEntry = Some NoEntry
bare_says option.DynamicBase = Some (Dynamic true)
bare_says option.HighEntropyVa = Some (Entropy true)
bare_says option.NxCompat = Some (Nx true)
bare_says option.LargeAddressAware = Some (Large true)
bare_says option.Fixed = Some (Fixed true)
bare_says option.Map = Some (MapFile None)
bare_says option.NoDefaultLib = Some NoDefaultAll
bare_says option.NoLogo = Some Nothing
bare_says _ = None

-- a value that the command line shares with directives
abbrev pub shared : Said → Option Setting
shared (directive.AlternateName left right) = Some (Alternate left right)
shared (directive.DefaultLib text) = Some (DefaultLib text)
shared (directive.Exports row) = Some (Exported row)
shared (directive.Include name) = Some (Included name)
shared (directive.Merge left right) = Some (Merged left right)
shared _ = None

-- an option of this name with a value: one that has no line here takes none
abbrev pub value_says : Known → List ℕ → List ℕ → Option Setting
value_says option.Shared name value = option_and_then shared (value_said name value)
value_says option.LibPath name value = Some (LibPath value)
value_says option.NoDefaultLib name value = Some (NoDefault value)
value_says option.DynamicBase name value = option_map Dynamic (negated value)
value_says option.HighEntropyVa name value = option_map Entropy (negated value)
value_says option.NxCompat name value = option_map Nx (negated value)
value_says option.LargeAddressAware name value = option_map Large (negated value)
value_says option.Fixed name value = option_map Fixed (negated value)
value_says option.Base name value = option_map Base (number_64 value)
value_says option.Entry name value = Some (Entry value)
value_says option.Heap name value = option_map Heap (sizes value)
value_says option.Stack name value = option_map Stack (sizes value)
value_says option.Map name value = Some (MapFile (Some value))
value_says option.ImpLib name value = Some (ImpLib value)
value_says option.Opt name value = option_map Optimize (opts value)
value_says option.Out name value = Some (Out value)
value_says option.Pdb name value = Some (Pdb value)
value_says option.Subsystem name value = option_map Subsystem (subsystem value)
value_says option.TimeStamp name value = option_map Time (number_32 value)
value_says option.Version name value = option_map Version (version value)
value_says option.Machine name value = option_map (λ is. Nothing) (exactly (codes "X64") value)
value_says option.Ignored name value = option_map (λ is. Nothing) (exactly (codes "NO") value)
value_says _ name value = None

-- an option by its name, with a value or without one: the table of refusals, one line each
abbrev pub option_says : List ℕ → List ℕ → Option (List ℕ) → Option Known → Result Setting UsageKind
option_says word name value None = Err Unknown
option_says word name None (Some one) = ok_or (bare_says one) MissingValue
option_says word name (Some []) (Some one) = Err MissingValue
option_says word name (Some (b ∷ value)) (Some one) =
    if is_text word then ok_or (value_says one name (b ∷ value)) BadValue else Err BadValue

-- an option's name stands between its first byte and its first colon, and its value after that
abbrev pub named_says : List ℕ → Option (List ℕ × List ℕ) → Result Setting UsageKind
named_says word None = option_says word (drop 1 word) None (known (drop 1 word))
named_says word (Some (front, value)) = option_says word (drop 1 front) (Some value) (known (drop 1 front))

-- an input file
abbrev pub input_says : List ℕ → Result Setting UsageKind
input_says word = if is_text word then Ok (Input word) else Err BadValue

-- a word is an option where it begins so, and else an input file
unfoldable pub word_says : List ℕ → Result Setting UsageKind
word_says word = if begins_option word then named_says word (split_at_first is_colon word) else input_says word

-- what a word says, where it is not refused, and why it is refused, where it is
abbrev pub said_in : Result Setting UsageKind → Option Setting
said_in (Ok setting) = Some setting
said_in (Err kind) = None

abbrev pub refusal_in : Result Setting UsageKind → Option UsageKind
refusal_in (Ok setting) = None
refusal_in (Err kind) = Some kind
