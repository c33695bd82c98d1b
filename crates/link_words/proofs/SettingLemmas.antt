-- Settings one after another give what the rules say of all of them.
use Rattle.std.proofs.Common.{◌≡◌, ℕ, List, [], ◌∷◌, ◌++◌, fold, Option, Some, None, unwrap_or, refl, sym, ap, ◌∙◌, append_assoc, append-nil}
use Rattle.std.specs.List.{cons_option, filter_map, last_or}
use Rattle.link_words.specs.Setting as says
use Rattle.link_words.specs.Setting.{Setting, word_says, said_in}
use Rattle.link_words.specs.LinkWords.{settings}
use Rattle.link_words.specs.Options.{input_in, alternate_in, merge_in, default_lib_in, export_in, include_in, lib_path_in, no_default_in, no_default_all_in, debug_in, dll_in, noentry_in, dynamic_in, entropy_in, nx_in, large_in, fixed_in, base_in, entry_in, heap_in, stack_in, map_in, implib_in, refs_in, icf_in, out_in, pdb_in, subsystem_in, time_in, version_in, options_of}
use Rattle.link_words.specs.Steps.{SoFar, nothing_said, with_setting, also, final_options}
use Rattle.link_words.proofs.WordLemmas.{word_step}

-- the last of a list, or what stood before
pub end_at : {A : Type 0} → A → List A → A
end_at before [] = before
end_at before (x ∷ xs) = end_at x xs

last_is : {A : Type 0} (default before : A) (xs : List A) → unwrap_or (last_or (Some before) xs) default ≡ end_at before xs
unfolding end_at
last_is default before [] = refl
last_is default before (x ∷ xs) = last_is default x xs

end_is : {A : Type 0} (default : A) (xs : List A) → end_at default xs ≡ unwrap_or (last_or None xs) default
unfolding end_at
end_is default [] = refl
end_is default (x ∷ xs) = sym (last_is default x xs)

-- what settings give after others, each field by its rule
pub merged : SoFar → List Setting → SoFar
merged given settings = record {
  options = record given.options {
    inputs = given.options.inputs ++ filter_map input_in settings;
    alternates = given.options.alternates ++ filter_map alternate_in settings;
    merges = given.options.merges ++ filter_map merge_in settings;
    default_libs = given.options.default_libs ++ filter_map default_lib_in settings;
    exports = given.options.exports ++ filter_map export_in settings;
    includes = given.options.includes ++ filter_map include_in settings;
    lib_paths = given.options.lib_paths ++ filter_map lib_path_in settings;
    no_default = given.options.no_default ++ filter_map no_default_in settings;
    no_default_all = end_at given.options.no_default_all (filter_map no_default_all_in settings);
    debug = end_at given.options.debug (filter_map debug_in settings);
    dll = end_at given.options.dll (filter_map dll_in settings);
    noentry = end_at given.options.noentry (filter_map noentry_in settings);
    dynamic = end_at given.options.dynamic (filter_map dynamic_in settings);
    entropy = end_at given.options.entropy (filter_map entropy_in settings);
    nx = end_at given.options.nx (filter_map nx_in settings);
    large = end_at given.options.large (filter_map large_in settings);
    fixed = end_at given.options.fixed (filter_map fixed_in settings);
    heap = end_at given.options.heap (filter_map heap_in settings);
    stack = end_at given.options.stack (filter_map stack_in settings);
    implib = last_or given.options.implib (filter_map implib_in settings);
    refs = last_or given.options.refs (filter_map refs_in settings);
    icf = end_at given.options.icf (filter_map icf_in settings);
    time = end_at given.options.time (filter_map time_in settings);
    version = end_at given.options.version (filter_map version_in settings);
  };
  base = last_or given.base (filter_map base_in settings);
  entry_name = last_or given.entry_name (filter_map entry_in settings);
  map_file = last_or given.map_file (filter_map map_in settings);
  out = last_or given.out (filter_map out_in settings);
  pdb = last_or given.pdb (filter_map pdb_in settings);
  subsystem = last_or given.subsystem (filter_map subsystem_in settings);
}

merged_more : (given : SoFar) (s : Setting) (settings : List Setting) → merged (with_setting given s) settings ≡ merged given (s ∷ settings)
unfolding merged end_at
merged_more given (says.Input text) settings = rw append_assoc refl
merged_more given (says.Alternate left right) settings = rw append_assoc refl
merged_more given (says.Merged left right) settings = rw append_assoc refl
merged_more given (says.DefaultLib text) settings = rw append_assoc refl
merged_more given (says.Exported row) settings = rw append_assoc refl
merged_more given (says.Included name) settings = rw append_assoc refl
merged_more given (says.LibPath text) settings = rw append_assoc refl
merged_more given (says.NoDefault text) settings = rw append_assoc refl
merged_more given says.NoDefaultAll settings = refl
merged_more given says.Debug settings = refl
merged_more given says.Dll settings = refl
merged_more given says.NoEntry settings = refl
merged_more given (says.Dynamic on) settings = refl
merged_more given (says.Entropy on) settings = refl
merged_more given (says.Nx on) settings = refl
merged_more given (says.Large on) settings = refl
merged_more given (says.Fixed on) settings = refl
merged_more given (says.Base n) settings = refl
merged_more given (says.Entry name) settings = refl
merged_more given (says.Heap two) settings = refl
merged_more given (says.Stack two) settings = refl
merged_more given (says.MapFile file) settings = refl
merged_more given (says.ImpLib file) settings = refl
merged_more given (says.Optimize (None, None)) settings = refl
merged_more given (says.Optimize (None, Some icf)) settings = refl
merged_more given (says.Optimize (Some refs, None)) settings = refl
merged_more given (says.Optimize (Some refs, Some icf)) settings = refl
merged_more given (says.Out text) settings = refl
merged_more given (says.Pdb text) settings = refl
merged_more given (says.Subsystem n) settings = refl
merged_more given (says.Time n) settings = refl
merged_more given (says.Version two) settings = refl
merged_more given says.Nothing settings = refl

merged_none : (given : SoFar) → merged given [] ≡ given
unfolding merged end_at
merged_none given = simp append-nil

-- one after another
pub settings_merge : (given : SoFar) (settings : List Setting) → fold with_setting given settings ≡ merged given settings
settings_merge given [] = sym (merged_none given)
settings_merge given (s ∷ settings) = settings_merge (with_setting given s) settings ∙ merged_more given s settings

-- the options of all of them are those of the rules
pub options_are : (settings : List Setting) → final_options (merged nothing_said settings) ≡ options_of settings
unfolding merged final_options options_of
options_are settings = simp end_is

words_fold : (given : SoFar) (words : List (List ℕ)) → fold word_step given words ≡ fold with_setting given (filter_map (λ word. said_in (word_says word)) words)
words_fold given [] = refl
words_fold given (word ∷ words) = by_cases (λ g. words_fold g words) (said_in (word_says word))
  where
    by_cases : ((g : SoFar) → fold word_step g words ≡ fold with_setting g (filter_map (λ word. said_in (word_says word)) words)) → (o : Option Setting) → fold word_step (also given o) words ≡ fold with_setting given (cons_option o (filter_map (λ word. said_in (word_says word)) words))
    by_cases again None = again given
    by_cases again (Some s) = again (with_setting given s)

pub words_options : (words : List (List ℕ)) → final_options (fold word_step nothing_said words) ≡ options_of (settings words)
unfolding settings
words_options words =
    ap final_options (words_fold nothing_said words ∙ settings_merge nothing_said (settings words)) ∙ options_are (settings words)
