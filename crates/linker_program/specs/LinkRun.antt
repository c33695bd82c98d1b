-- What a run of the linker promises, by the status that it ends with: what is printed, what the files hold
-- afterwards, and where each status comes from. Own.
use Rattle.std.specs.Prelude.{◌≡◌, ◌<◌, ℕ, if◌then◌else◌, List, [], ◌∷◌, ◌++◌, length, Option, Some, None, Result, Ok, Err, ◌⊎◌}
use Rattle.std.specs.Option.{ForSome}
use Rattle.link_base.specs.declared.fault.Fault.{Fault}
use Rattle.diagnostics.specs.FaultLine.{fault_line_text}
use Rattle.link_files.specs.Store.{Store}
use Rattle.link_files.specs.Outside.{FilesView, SinkView, AreUntouched, ReadFailed, LinePrinted, LineTorn, NothingPrinted}
use Rattle.link_files.specs.Outputs.{NamedBytes, output_at, FirstWritten, NextTorn}
use Rattle.image_writer.specs.ExpectedImage.{MeansPlan, image_file}
use Rattle.link_words.specs.Outcome.{Refused as RefusedWord}
use Rattle.link_words.specs.Outcome.{LinkOptions, CommandSaid, Link, At, Show, Gen}
use Rattle.link_words.specs.Commands.{words_say}
use Rattle.file_search.specs.Reading.{TriesInput}
use Rattle.lib_search.specs.Loading.{TriesDefault}
use Rattle.link_pieces.specs.TablePieces.{KeptParts}
use Rattle.link_plan.specs.Plan.{IsLinkOf}
use Rattle.link_image.specs.LinkedImage.{IsImageOf, HoldsImports, HoldsExports, HoldsEntries}
use Rattle.pdb_msf.specs.WrittenFile.{msf_of}
use Rattle.link_library.specs.LinkLibrary.{library_with}
use Rattle.link_image.specs.LinkMap.{link_map}
use Rattle.link_image.specs.LinkPdb.{link_streams}
use Rattle.linker_program.specs.declared.status.Status.{Status}
use Rattle.linker_program.specs.declared.status.Status.TheVariants as status
use Rattle.linker_program.specs.Ending.{Outcome, Usage, Refused, Linked, Shown, Plan}
use Rattle.linker_program.specs.Outcome.{HasOutcome}
use Rattle.linker_program.specs.RunLines.{usage_line, summary_line, read_failure_line, write_failure_line}

abbrev pub status_code : Status → ℕ
status_code status.Done = 0
status_code status.Refused = 1
status_code status.Usage = 2
status_code status.OutOfMemory = 3
status_code status.ReadFailed = 4
status_code status.WriteFailed = 5
status_code status.PutFailed = 6

-- ---- what a link leaves; `has` is the outcome that it has, by the files

-- an output of a name and bytes, where there are both
abbrev pub asked_output : Option (List ℕ) → Option (List ℕ) → List NamedBytes
asked_output None bytes = []
asked_output (Some name) None = []
asked_output (Some name) (Some bytes) = record { name = name; bytes = bytes } ∷ []

-- the name of the PDB, where one is asked for
abbrev pub pdb_name : LinkOptions → Option (List ℕ)
pdb_name options = if options.debug then Some options.pdb else None

-- the outputs of a link that is done, in the order of their writes: the PDB, the map and the import library, where they are
-- asked for, and the image
abbrev pub outputs_of : Plan → List ℕ → List NamedBytes
outputs_of plan image =
    asked_output (pdb_name plan.options) (Some plan.pdb)
    ++ (asked_output plan.options.map_file (Some plan.map)
    ++ (asked_output plan.options.implib plan.library ++ record { name = plan.options.out; bytes = image } ∷ []))

-- where the files are known, the link has this outcome
pub record Expects (has : Store → Outcome → Type 0) (files : FilesView) (outcome : Outcome) : Type 0 where
  pub told : ForSome files.store (λ store. has store outcome)

-- wherever an image is loaded, its import directory names the imports of the modules that are kept, each with the slot
-- that the layout gives it, and no other
abbrev pub HasImports : Plan → List ℕ → Type 0
HasImports plan image =
    (link : KeptParts) → IsLinkOf plan.options plan.modules plan.resources link → (is : IsImageOf plan.options link plan.image) → HoldsImports link is.layout image

-- and its export directory says of each name and of each number what the exports of the link say, and of no other
abbrev pub HasExports : Plan → List ℕ → Type 0
HasExports plan image =
    (link : KeptParts) → IsLinkOf plan.options plan.modules plan.resources link → (is : IsImageOf plan.options link plan.image) → HoldsExports link is.layout image

-- and its resource directory leads to the data of each of these resources, and to no others, where there are any
abbrev pub HasResources : Plan → List ℕ → Type 0
HasResources plan image = 0 < length plan.resources → HoldsEntries plan.resources image

-- the map lists what is kept of the link at the places that the image has
abbrev pub HasMap : Plan → Type 0
HasMap plan =
    (link : KeptParts) → IsLinkOf plan.options plan.modules plan.resources link → (is : IsImageOf plan.options link plan.image) → plan.map ≡ link_map plan.options link is.rows is.layout

-- and the PDB does, with the identifier that the image has
abbrev pub HasPdb : Plan → Type 0
HasPdb plan =
    (link : KeptParts) → IsLinkOf plan.options plan.modules plan.resources link → (is : IsImageOf plan.options link plan.image)
    → plan.pdb ≡ msf_of (link_streams plan.options link is.rows is.layout is.tables (image_file plan.image))

-- and the import library lists the exports of the link
abbrev pub HasLibrary : Plan → Type 0
HasLibrary plan = (link : KeptParts) → IsLinkOf plan.options plan.modules plan.resources link → plan.library ≡ library_with link.parts.exports

-- the plan is the outcome, the image means it and has the imports, exports and resources, and the map, the PDB and the import
-- library are those of the image
pub record IsMade (has : Store → Outcome → Type 0) (files : FilesView) (plan : Plan) (image : List ℕ) : Type 0 where
  pub outcome : Expects has files (Linked plan)
  pub means : MeansPlan plan.image image
  pub imports : HasImports plan image
  pub exports : HasExports plan image
  pub resources : HasResources plan image
  pub map : HasMap plan
  pub pdb : HasPdb plan
  pub library : HasLibrary plan

-- every output is whole
pub record LinkDone (has : Store → Outcome → Type 0) (before after : FilesView) (plan : Plan) (image line : List ℕ) : Type 0 where
  pub made : IsMade has before plan image
  pub files : FirstWritten before after (outputs_of plan image) (length (outputs_of plan image))
  pub says : line ≡ summary_line plan.options.out (length plan.modules) (length plan.image.rows) (length image)

-- the input is refused
pub record InputRefused (has : Store → Outcome → Type 0) (before after : FilesView) (fault : Fault) (line : List ℕ) : Type 0 where
  pub outcome : Expects has before (Refused fault)
  pub files : AreUntouched before after
  pub says : line ≡ fault_line_text fault

-- the read of a file that the command looks for failed; `tries` says which these are, by the files as far as they are told
pub record FileUnread (tries : Option Store → List ℕ → Type 0) (before after : FilesView) (name line : List ℕ) : Type 0 where
  pub tried : tries before.store name
  pub files : ReadFailed before after
  pub says : line ≡ read_failure_line name

-- a link looks for its inputs, and then for its default libraries
abbrev pub LinkTries : LinkOptions → Option Store → List ℕ → Type 0
LinkTries options told name = ForSome told (λ store. TriesInput store options name ⊎ TriesDefault store options name)

-- the write of an output failed
pub record OutputUnwritten (has : Store → Outcome → Type 0) (before after : FilesView) (plan : Plan) (image : List ℕ) (index : ℕ) (line : List ℕ) : Type 0 where
  pub made : IsMade has before plan image
  pub files : NextTorn before after (outputs_of plan image) index
  pub says : line ≡ write_failure_line (output_at (outputs_of plan image) index).name

-- an answer of a link, with its line: what was found and done before the line is printed
abbrev pub LinkAnswers : (Store → Outcome → Type 0) → (Option Store → List ℕ → Type 0) → FilesView → FilesView → Status → List ℕ → Type 0
LinkAnswers has tries before after status.Done line = (plan : Plan) × ((image : List ℕ) × LinkDone has before after plan image line)
LinkAnswers has tries before after status.Refused line = (fault : Fault) × InputRefused has before after fault line
LinkAnswers has tries before after status.ReadFailed line = (name : List ℕ) × FileUnread tries before after name line
LinkAnswers has tries before after status.WriteFailed line =
    (plan : Plan) × ((image : List ℕ) × ((index : ℕ) × OutputUnwritten has before after plan image index line))
LinkAnswers has tries before after status.Usage line = ⊥
LinkAnswers has tries before after status.OutOfMemory line = ⊥
LinkAnswers has tries before after status.PutFailed line = ⊥

-- what was asked for is shown; every file is as it was
pub record LineShown (has : Store → Outcome → Type 0) (before after : FilesView) (line : List ℕ) : Type 0 where
  pub outcome : Expects has before (Shown line)
  pub files : AreUntouched before after

-- a command that shows something of an image looks for that
abbrev pub ImageTries : List ℕ → Option Store → List ℕ → Type 0
ImageTries image told name = name ≡ image

-- and where it looks a symbol up, for the program database
abbrev pub PairTries : List ℕ → List ℕ → Option Store → List ℕ → Type 0
PairTries image pdb told name = (name ≡ image) ⊎ (name ≡ pdb)

-- a generated program is looked for nowhere
abbrev pub NothingTried : Option Store → List ℕ → Type 0
NothingTried told name = ⊥

-- an answer of a command that shows something, with its line
abbrev pub ShowAnswers : (Store → Outcome → Type 0) → (Option Store → List ℕ → Type 0) → FilesView → FilesView → Status → List ℕ → Type 0
ShowAnswers has tries before after status.Done line = LineShown has before after line
ShowAnswers has tries before after status.Refused line = (fault : Fault) × InputRefused has before after fault line
ShowAnswers has tries before after status.ReadFailed line = (name : List ℕ) × FileUnread tries before after name line
ShowAnswers has tries before after status.WriteFailed line = ⊥
ShowAnswers has tries before after status.Usage line = ⊥
ShowAnswers has tries before after status.OutOfMemory line = ⊥
ShowAnswers has tries before after status.PutFailed line = ⊥

-- ---- what the files hold where memory ran out

-- nothing was written
pub record NothingWritten (before after : FilesView) : Type 0 where
  pub store : after.store ≡ before.store
  pub writes : after.write_faults ≡ before.write_faults

-- some of the first outputs are whole, and where a write failed the next is torn
pub record SomeWritten (has : Store → Outcome → Type 0) (before after : FilesView) (plan : Plan) (image : List ℕ) : Type 0 where
  pub made : IsMade has before plan image
  pub count : ℕ
  pub files : FirstWritten before after (outputs_of plan image) count ⊎ NextTorn before after (outputs_of plan image) count

abbrev pub LeftByMemory : (Store → Outcome → Type 0) → FilesView → FilesView → Type 0
LeftByMemory has before after =
    NothingWritten before after ⊎ ((plan : Plan) × ((image : List ℕ) × SomeWritten has before after plan image))

-- ---- the words

-- an answer of the command that the words say
abbrev pub CommandAnswers : Result CommandSaid RefusedWord → (Store → Outcome → Type 0) → FilesView → FilesView → Status → List ℕ → Type 0
CommandAnswers (Ok (Link options)) has before after answer line = LinkAnswers has (LinkTries options) before after answer line
CommandAnswers (Ok (At image base rva len)) has before after answer line = ShowAnswers has (ImageTries image) before after answer line
CommandAnswers (Ok (Show image pdb base symbol len)) has before after answer line = ShowAnswers has (PairTries image pdb) before after answer line
CommandAnswers (Ok (Gen count)) has before after answer line = ShowAnswers has NothingTried before after answer line
CommandAnswers (Err word) has before after answer line = ⊥

-- the words are refused
pub record WordsRefused (words : List (List ℕ)) (before after : FilesView) (index : ℕ) (kind line : List ℕ) : Type 0 where
  pub outcome : (store : Store) → HasOutcome words store (Usage index kind)
  pub files : AreUntouched before after
  pub says : line ≡ usage_line index kind

abbrev pub Answers : List (List ℕ) → FilesView → FilesView → Status → List ℕ → Type 0
Answers words before after status.Usage line = (index : ℕ) × ((kind : List ℕ) × WordsRefused words before after index kind line)
Answers words before after answer line = CommandAnswers (words_say words) (HasOutcome words) before after answer line

-- ---- the whole run

-- an answer whose line was printed
pub record Answered (words : List (List ℕ)) (before after : FilesView) (shown shown_after : SinkView) (answer : Status) (line : List ℕ) : Type 0 where
  pub found : Answers words before after answer line
  pub printed : LinePrinted shown shown_after line

-- an answer whose line could not be printed
pub record Unprinted (words : List (List ℕ)) (before after : FilesView) (shown shown_after : SinkView) (answer : Status) (line : List ℕ) : Type 0 where
  pub found : Answers words before after answer line
  pub printed : LineTorn shown shown_after line

pub record RanOutOfMemory (words : List (List ℕ)) (before after : FilesView) (shown shown_after : SinkView) : Type 0 where
  pub files : LeftByMemory (HasOutcome words) before after
  pub printed : NothingPrinted shown shown_after

-- the run ended with this status
abbrev pub RanWith : List (List ℕ) → FilesView → FilesView → SinkView → SinkView → Status → Type 0
RanWith words before after shown shown_after status.OutOfMemory = RanOutOfMemory words before after shown shown_after
RanWith words before after shown shown_after status.PutFailed =
    (answer : Status) × ((line : List ℕ) × Unprinted words before after shown shown_after answer line)
RanWith words before after shown shown_after answer = (line : List ℕ) × Answered words before after shown shown_after answer line

-- the run ended with the code of such a status
pub record Ran (words : List (List ℕ)) (before after : FilesView) (shown shown_after : SinkView) (code : ℕ) : Type 0 where
  pub status : Status
  pub code_is : code ≡ status_code status
  pub ran : RanWith words before after shown shown_after status

-- ---- the status that is owed

abbrev pub outcome_code : Outcome → ℕ
outcome_code (Linked plan) = 0
outcome_code (Shown line) = 0
outcome_code (Refused fault) = 1
outcome_code (Usage index kind) = 2

-- no count rose
pub record IsQuiet (before after : FilesView) (shown shown_after : SinkView) : Type 0 where
  pub reads : after.read_faults ≡ before.read_faults
  pub writes : after.write_faults ≡ before.write_faults
  pub puts : shown_after.faults ≡ shown.faults

-- where the files are told and nothing failed, the status is that of the expected outcome, or want of memory
pub record IsOwed (words : List (List ℕ)) (before after : FilesView) (shown shown_after : SinkView) (code : ℕ) : Type 0 where
  pub owed : (store : Store) (outcome : Outcome) → before.store ≡ Some store → IsQuiet before after shown shown_after → HasOutcome words store outcome → (code ≡ outcome_code outcome) ⊎ (code ≡ 3)
