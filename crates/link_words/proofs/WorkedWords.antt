-- The definitions on command lines.
use Rattle.std.proofs.Common.{◌≡◌, ℕ, Bool, true, false, List, [], ◌∷◌, ◌++◌, map, Option, Some, None, Ok, Err, refl}
use Rattle.std.specs.Prelude.{codes}
use Rattle.link_base.specs.Refusals.{first_refusal_below}
use Rattle.directives.specs.Text.{is_text, is_name}
use Rattle.directives.specs.Form.{form, quoted_form, whole, pair}
use Rattle.directives.specs.Names.{is_word, listed}
use Rattle.directives.specs.Number.{digits_value, are_digits, digits_up_to, decimal_up_to, number_up_to}
use Rattle.directives.specs.ExportValue.{export_internal, export_of, export_value}
use Rattle.directives.specs.Value.{name_of, names_of, value_said}
use Rattle.directives.specs.declared.item.ExportForm.TheVariants.{Code}
use Rattle.link_words.specs.declared.errors.UsageKind.TheVariants.{Command, Unknown, MissingValue, BadValue, NoInput, Conflict}
use Rattle.link_words.specs.Known.{known}
use Rattle.link_words.specs.Values.{negated, sizes, version, subsystem, opt_item, opts}
use Rattle.link_words.specs.Setting.{Setting, word_says, refusal_in}
use Rattle.link_words.specs.Setting as says
use Rattle.link_words.specs.Extension.{stem, with_extension}
use Rattle.link_words.specs.Options.{lacks_image_name, default_entry, options_of, outputs_clash}
use Rattle.link_words.specs.Outcome.{LinkOptions, Link, At, Show, refuse}
use Rattle.link_words.specs.LinkWords.{word_refusal, settings, line_refusal, link_refusal, link_says}
use Rattle.link_words.specs.Commands.{text_word, number_word, at_says, show_says, gen_says, words_say}

-- ---- whole lines

wrong_commands : map words_say ([] ∷ (codes "foo" ∷ []) ∷ (codes "LINK" ∷ codes "a.obj" ∷ []) ∷ (codes "--help" ∷ []) ∷ (codes "gen" ∷ []) ∷ []) ≡ Err (refuse 0 Command) ∷ Err (refuse 0 Command) ∷ Err (refuse 0 Command) ∷ Err (refuse 0 Command) ∷ Err (refuse 0 Command) ∷ []
unfolding words_say
wrong_commands = refl

no_input : words_say (codes "link" ∷ []) ≡ Err (refuse 0 NoInput)
unfolding words_say link_says link_refusal word_refusal first_refusal_below settings line_refusal options_of
no_input = refl

bad_base : words_say (codes "link" ∷ codes "a.obj" ∷ codes "/BASE:x" ∷ []) ≡ Err (refuse 2 BadValue)
unfolding words_say link_says link_refusal word_refusal first_refusal_below word_says known is_word is_text number_up_to decimal_up_to digits_up_to are_digits digits_value
bad_base = refl

one_object : words_say (codes "link" ∷ codes "a.obj" ∷ []) ≡ Ok (Link (record {
  inputs = codes "a.obj" ∷ [];
  alternates = [];
  merges = [];
  default_libs = [];
  exports = [];
  includes = [];
  base = 0x1_4000_0000;
  debug = false;
  dll = false;
  noentry = false;
  dynamic = true;
  entropy = true;
  nx = true;
  large = true;
  entry_name = Some (codes "mainCRTStartup");
  fixed = false;
  heap = (1048576, 4096);
  stack = (1048576, 4096);
  lib_paths = [];
  map_file = None;
  implib = None;
  no_default = [];
  no_default_all = false;
  refs = None;
  icf = false;
  out = codes "a.exe";
  pdb = codes "a.pdb";
  subsystem = 3;
  time = 0;
  version = (0, 0);
}))
unfolding words_say link_says link_refusal word_refusal first_refusal_below settings line_refusal options_of outputs_clash lacks_image_name default_entry with_extension stem word_says known is_word is_text
one_object = refl

-- ---- words of a link by themselves

refused_words : map (λ word. refusal_in (word_says word)) (codes "/" ∷ codes "/ALIGNCOMM:c,6" ∷ codes "/what:" ∷ codes "/BASE" ∷ codes "/DEBUG:" ∷ codes "/MAP:" ∷ codes "/OUT:" ∷ codes "/INCREMENTAL" ∷ []) ≡ Some Unknown ∷ Some Unknown ∷ Some Unknown ∷ Some MissingValue ∷ Some MissingValue ∷ Some MissingValue ∷ Some MissingValue ∷ Some MissingValue ∷ []
unfolding word_says known is_word
refused_words = refl

refused_values : map (λ word. refusal_in (word_says word)) (codes "/MERGE:.a" ∷ codes "/INCLUDE:\"a\"b" ∷ codes "/DEBUG:FULL" ∷ codes "/NXCOMPAT:on" ∷ codes "/HEAP:1," ∷ codes "/STACK:1,2,3" ∷ codes "/BASE:0X12" ∷ codes "/BASE:18446744073709551616" ∷ codes "/TIMESTAMP:4294967296" ∷ codes "/VERSION:65536" ∷ codes "/VERSION:1." ∷ codes "/OPT:REF," ∷ codes "/OPT:ICF,LBR" ∷ codes "/SUBSYSTEM:EFI" ∷ codes "/MACHINE:ARM64" ∷ (codes "a" ++ 0 ∷ []) ∷ []) ≡ Some BadValue ∷ Some BadValue ∷ Some BadValue ∷ Some BadValue ∷ Some BadValue ∷ Some BadValue ∷ Some BadValue ∷ Some BadValue ∷ Some BadValue ∷ Some BadValue ∷ Some BadValue ∷ Some BadValue ∷ Some BadValue ∷ Some BadValue ∷ Some BadValue ∷ Some BadValue ∷ []
unfolding word_says known is_word is_text is_name value_said listed names_of name_of whole pair form quoted_form negated sizes version subsystem opt_item opts number_up_to decimal_up_to digits_up_to are_digits digits_value
refused_values = refl

taken_words : map word_says (codes "-entry:\"a b\"" ∷ codes "/export:a=k.f" ∷ codes "/Heap:1" ∷ codes "/stack:0x10,2" ∷ codes "/opt:ref,NoRef,noicf" ∷ codes "/Opt:noIcf,ICF" ∷ codes "/MANIFEST:no" ∷ []) ≡ Ok (says.Entry (codes "\"a b\"")) ∷ Ok (says.Exported (record { name = codes "a"; internal = Some (codes "k.f"); ordinal = None; noname = false; form = Code; private = false })) ∷ Ok (says.Heap (1, 4096)) ∷ Ok (says.Stack (16, 2)) ∷ Ok (says.Optimize (Some false, Some false)) ∷ Ok (says.Optimize (None, Some true)) ∷ Ok says.Nothing ∷ []
unfolding word_says known is_word is_text is_name value_said listed form export_value export_of export_internal sizes opt_item opts number_up_to decimal_up_to digits_up_to are_digits digits_value
taken_words = refl

-- the option that a bare word has, whose values are taken in `options_of`
options : List (List ℕ) → LinkOptions
options words = options_of (settings words)

-- ---- of options with one value the last counts, and the others gather

last_counts : (options (codes "/HEAP:9,8" ∷ codes "/HEAP:7" ∷ [])).heap ≡ (7, 4096)
unfolding options options_of settings word_says known is_word is_text sizes number_up_to decimal_up_to digits_up_to are_digits digits_value
last_counts = refl

map_again : (options (codes "a.obj" ∷ codes "/MAP:x" ∷ codes "/MAP" ∷ [])).map_file ≡ Some (codes "a.map")
unfolding options options_of settings with_extension stem word_says known is_word is_text
map_again = refl

-- whether unreferenced sections are dropped, and whether equal functions fold
lists : List (List ℕ) → Option Bool × Bool
lists words = ((options words).refs, (options words).icf)

lists_join : map lists ((codes "/OPT:REF" ∷ codes "/OPT:ICF" ∷ []) ∷ (codes "/OPT:ICF" ∷ codes "/OPT:NOREF" ∷ []) ∷ (codes "/OPT:ref,icf" ∷ codes "/DEBUG" ∷ []) ∷ (codes "/OPT:REF" ∷ codes "/OPT:NOICF" ∷ []) ∷ []) ≡ (Some true, true) ∷ (Some false, true) ∷ (Some true, true) ∷ (Some true, false) ∷ []
unfolding lists options options_of settings word_says known is_word is_text opt_item opts
lists_join = refl

last_list_counts : map lists ((codes "/OPT:ICF" ∷ codes "/OPT:NOICF" ∷ []) ∷ (codes "/OPT:NOICF" ∷ codes "/OPT:ICF" ∷ []) ∷ (codes "/OPT:REF,ICF" ∷ codes "/OPT:NOREF,NOICF" ∷ []) ∷ (codes "/DEBUG" ∷ []) ∷ []) ≡ (None, false) ∷ (None, true) ∷ (Some false, false) ∷ (None, false) ∷ []
unfolding lists options options_of settings word_says known is_word is_text opt_item opts
last_list_counts = refl

fixed_again : (options (codes "/FIXED" ∷ codes "/FIXED:NO" ∷ [])).fixed ≡ false
unfolding options options_of settings word_says known is_word is_text negated
fixed_again = refl

gathered : (options (codes "/LIBPATH:b" ∷ codes "c.obj" ∷ codes "/LIBPATH:a" ∷ [])).lib_paths ≡ codes "b" ∷ codes "a" ∷ []
unfolding options options_of settings word_says known is_word is_text
gathered = refl

low_dll : (options (codes "/dll" ∷ codes "/LARGEADDRESSAWARE:no" ∷ [])).base ≡ 0x1000_0000
unfolding options options_of settings word_says known is_word is_text negated
low_dll = refl

native : (options (codes "/SUBSYSTEM:native" ∷ [])).entry_name ≡ Some (codes "mainCRTStartup")
unfolding options options_of settings word_says known is_word is_text subsystem default_entry
native = refl

extension_after_a_slash : (options (codes "x.y\\a" ∷ [])).out ≡ codes "x.y\\a.exe"
unfolding options options_of settings with_extension stem word_says is_text
extension_after_a_slash = refl

-- ---- options that do not go together

conflicts : map words_say ((codes "link" ∷ codes "a" ∷ codes "/NOENTRY" ∷ []) ∷ (codes "link" ∷ codes "a" ∷ codes "/debug" ∷ codes "/out:a.pdb" ∷ []) ∷ (codes "link" ∷ codes "a" ∷ codes "/map:p" ∷ codes "/pdb:p" ∷ codes "/debug" ∷ []) ∷ (codes "link" ∷ codes "a" ∷ codes "/NOENTRY" ∷ codes "/what" ∷ []) ∷ []) ≡ Err (refuse 0 Conflict) ∷ Err (refuse 0 Conflict) ∷ Err (refuse 0 Conflict) ∷ Err (refuse 3 Unknown) ∷ []
unfolding words_say link_says link_refusal word_refusal first_refusal_below settings line_refusal options_of outputs_clash with_extension stem word_says known is_word is_text
conflicts = refl

-- ---- other commands

other_commands : map words_say ((codes "at" ∷ codes "/a" ∷ codes "0" ∷ codes "4096" ∷ codes "6" ∷ []) ∷ (codes "show" ∷ codes "a" ∷ codes "b" ∷ codes "0x10" ∷ codes "-m" ∷ codes "65536" ∷ []) ∷ (codes "gen" ∷ codes "2001" ∷ []) ∷ (codes "at" ∷ codes "a" ∷ codes "0" ∷ codes "4294967296" ∷ codes "x" ∷ []) ∷ []) ≡ Ok (At (codes "/a") 0 4096 6) ∷ Ok (Show (codes "a") (codes "b") 16 (codes "-m") 65536) ∷ Err (refuse 1 BadValue) ∷ Err (refuse 3 BadValue) ∷ []
unfolding words_say at_says show_says gen_says text_word number_word is_text number_up_to decimal_up_to digits_up_to are_digits digits_value
other_commands = refl
