-- What the words of a link give one after another, as the code takes them. This decides nothing: `Options` and `LinkWords`
-- say what all of them give.
use Rattle.std.specs.Prelude.{◌≡◌, ℕ, true, false, if◌then◌else◌, List, [], ◌∷◌, ◌++◌, fold, Option, Some, None, option_map, unwrap_or, Result, Ok, Err, codes}
use Rattle.std.specs.Option.{option_copied, option_or}
use Rattle.link_base.specs.PeFormat.{PAGE_SIZE}
use Rattle.link_words.specs.Extension.{with_extension}
use Rattle.link_words.specs.Outcome.{LinkOptions, options_said, CommandSaid, Link, Refused}
use Rattle.link_words.specs.Setting as says
use Rattle.link_words.specs.Setting.{Setting, word_says, said_in}
use Rattle.link_words.specs.Options.{default_base, default_subsystem, default_entry, image_extension, first_text, map_name}
use Rattle.link_words.specs.LinkWords.{word_refusal, line_refusal, unless_refused}
use Rattle.link_words.specs.Commands.{◌>>=◌}
use Rattle.link_words.specs.declared.given.Given.{Given}
use Rattle.link_words.specs.declared.errors.UsageKind.{UsageKind}
use Rattle.link_words.specs.declared.errors.WordsError.{WordsError}
use Rattle.link_words.specs.declared.errors.WordsError.TheVariants.{Usage, Memory}
use Rattle.link_words.specs.declared.errors.Refusal.{Refusal}
use Rattle.link_words.specs.declared.errors.Refusal.TheVariants as refusal

-- the options so far, and what is said of those whose defaults depend on others
pub record SoFar : Type 0 where
  pub options : LinkOptions
  pub base : Option ℕ
  pub entry_name : Option (List ℕ)
  pub map_file : Option (Option (List ℕ))
  pub out : Option (List ℕ)
  pub pdb : Option (List ℕ)
  pub subsystem : Option ℕ

abbrev pub so_far : Given → SoFar
so_far given = record {
  options = options_said given.options;
  base = given.base;
  entry_name = given.entry;
  map_file = option_map option_copied given.map;
  out = option_copied given.out;
  pdb = option_copied given.pdb;
  subsystem = given.subsystem;
}

abbrev pub nothing_said : SoFar
nothing_said = record {
  options = record {
    inputs = [];
    alternates = [];
    merges = [];
    default_libs = [];
    exports = [];
    includes = [];
    base = 0;
    debug = false;
    dll = false;
    noentry = false;
    dynamic = true;
    entropy = true;
    nx = true;
    large = true;
    entry_name = None;
    fixed = false;
    heap = (0x10_0000, PAGE_SIZE);
    stack = (0x10_0000, PAGE_SIZE);
    lib_paths = [];
    map_file = None;
    implib = None;
    no_default = [];
    no_default_all = false;
    refs = None;
    icf = false;
    out = [];
    pdb = [];
    subsystem = 0;
    time = 0;
    version = (0, 0);
  };
  base = None;
  entry_name = None;
  map_file = None;
  out = None;
  pdb = None;
  subsystem = None;
}

-- one setting more
abbrev pub with_setting : SoFar → Setting → SoFar
with_setting given (says.Input text) = record given { options = record given.options { inputs = given.options.inputs ++ text ∷ [] } }
with_setting given (says.Alternate left right) = record given { options = record given.options { alternates = given.options.alternates ++ (left, right) ∷ [] } }
with_setting given (says.Merged left right) = record given { options = record given.options { merges = given.options.merges ++ (left, right) ∷ [] } }
with_setting given (says.DefaultLib text) = record given { options = record given.options { default_libs = given.options.default_libs ++ text ∷ [] } }
with_setting given (says.Exported row) = record given { options = record given.options { exports = given.options.exports ++ row ∷ [] } }
with_setting given (says.Included name) = record given { options = record given.options { includes = given.options.includes ++ name ∷ [] } }
with_setting given (says.LibPath text) = record given { options = record given.options { lib_paths = given.options.lib_paths ++ text ∷ [] } }
with_setting given (says.NoDefault text) = record given { options = record given.options { no_default = given.options.no_default ++ text ∷ [] } }
with_setting given says.NoDefaultAll = record given { options = record given.options { no_default_all = true } }
with_setting given says.Debug = record given { options = record given.options { debug = true } }
with_setting given says.Dll = record given { options = record given.options { dll = true } }
with_setting given says.NoEntry = record given { options = record given.options { noentry = true } }
with_setting given (says.Dynamic on) = record given { options = record given.options { dynamic = on } }
with_setting given (says.Entropy on) = record given { options = record given.options { entropy = on } }
with_setting given (says.Nx on) = record given { options = record given.options { nx = on } }
with_setting given (says.Large on) = record given { options = record given.options { large = on } }
with_setting given (says.Fixed on) = record given { options = record given.options { fixed = on } }
with_setting given (says.Base n) = record given { base = Some n }
with_setting given (says.Entry name) = record given { entry_name = Some name }
with_setting given (says.Heap two) = record given { options = record given.options { heap = two } }
with_setting given (says.Stack two) = record given { options = record given.options { stack = two } }
with_setting given (says.MapFile file) = record given { map_file = Some file }
with_setting given (says.ImpLib file) = record given { options = record given.options { implib = Some file } }
with_setting given (says.Optimize (refs, icf)) = record given { options = record given.options { refs = option_or refs given.options.refs; icf = unwrap_or icf given.options.icf } }
with_setting given (says.Out text) = record given { out = Some text }
with_setting given (says.Pdb text) = record given { pdb = Some text }
with_setting given (says.Subsystem n) = record given { subsystem = Some n }
with_setting given (says.Time n) = record given { options = record given.options { time = n } }
with_setting given (says.Version two) = record given { options = record given.options { version = two } }
with_setting given says.Nothing = given

-- one word more, and all of them
abbrev pub with_said : SoFar → Result Setting UsageKind → Result SoFar UsageKind
with_said given (Ok setting) = Ok (with_setting given setting)
with_said given (Err kind) = Err kind

abbrev pub also : SoFar → Option Setting → SoFar
also given None = given
also given (Some setting) = with_setting given setting

unfoldable pub words_give : List (List ℕ) → Result SoFar Refused
words_give words =
    unless_refused (word_refusal words) (fold (λ given word. also given (said_in (word_says word))) nothing_said words)

-- what the code's answer on one word says: the settings afterwards, a refusal by its kind, or nothing for want of memory
abbrev pub Gives : Result (Unit {0}) Refusal → Result SoFar UsageKind → SoFar → Type 0
Gives (Ok done) expected after = expected ≡ Ok after
Gives (Err refusal.Memory) expected after = Unit {0}
Gives (Err (refusal.Usage kind)) expected after = expected ≡ Err kind

abbrev pub refused_at : ℕ → Refusal → WordsError
refused_at index refusal.Memory = Memory
refused_at index (refusal.Usage kind) = Usage index kind

-- ---- the end

abbrev pub final_subsystem : SoFar → ℕ
final_subsystem given = unwrap_or given.subsystem (default_subsystem given.options.dll)

abbrev pub final_entry : SoFar → Option (List ℕ)
final_entry given =
    if given.options.noentry then None
    else Some (unwrap_or given.entry_name (default_entry given.options.dll (final_subsystem given)))

abbrev pub final_out : SoFar → List ℕ
final_out given =
    unwrap_or given.out (with_extension (first_text given.options.inputs) (image_extension given.options.dll))

unfoldable pub final_options : SoFar → LinkOptions
final_options given = record given.options {
  base = unwrap_or given.base (default_base given.options.large given.options.dll);
  entry_name = final_entry given;
  map_file = option_map (map_name (final_out given)) given.map_file;
  out = final_out given;
  pdb = unwrap_or given.pdb (with_extension (final_out given) (codes ".pdb"));
  subsystem = final_subsystem given;
}

unfoldable pub finished : SoFar → Result LinkOptions Refused
finished given = unless_refused (line_refusal (final_options given)) (final_options given)

-- a link, step by step
unfoldable pub link_steps : List (List ℕ) → Result CommandSaid Refused
link_steps words = do
  given ← words_give words
  options ← finished given
  Ok (Link options)
