-- The default libraries that are searched, as names come one after the other. Own.
use Rattle.std.specs.Prelude.{◌≡◌, ℕ, Bool, false, ◌||◌, List, ◌++◌, String}
use Rattle.std.specs.HashSet.{HashSet, contains_text}
use Rattle.std.specs.Str.{str_to_ascii_lowercase}
use Rattle.link_words.specs.Outcome.{LinkOptions}
use Rattle.link_words.specs.SettingsView.{texts_of}
use Rattle.file_search.specs.DefaultLibraries.{ruled_out, is_among_names, wanted_names}
use Rattle.file_search.specs.declared.default_libraries.DefaultLibraries.{DefaultLibraries}

-- a set of names in lower case has this one
abbrev pub has_noted : {Y S : Type 0} → HashSet (String Y) S → List ℕ → Bool
has_noted seen name = contains_text seen (str_to_ascii_lowercase name)

-- a set has, in either case, exactly these names
pub record NotesOnly {Y S : Type 0} (seen : HashSet (String Y) S) (names : List (List ℕ)) : Type 0 where
  pub has : (name : List ℕ) → has_noted seen name ≡ is_among_names names name

-- these names were noted besides
pub record NotesMore {Y S : Type 0} (before after : HashSet (String Y) S) (names : List (List ℕ)) : Type 0 where
  pub has : (name : List ℕ) → has_noted after name ≡ (has_noted before name || is_among_names names name)

-- the names of the libraries that are searched
abbrev pub wanted_by : DefaultLibraries → List (List ℕ)
wanted_by libraries = texts_of libraries.wanted.items

-- after these names of default libraries: the set has those that are ruled out and those that came, unless all are ruled out
pub record KeepsDefaults (options : LinkOptions) (names : List (List ℕ)) (libraries : DefaultLibraries) : Type 0 where
  pub all_is : libraries.all_ruled_out ≡ options.no_default_all
  pub seen : options.no_default_all ≡ false → (name : List ℕ) → has_noted libraries.seen name ≡ is_among_names (ruled_out options ++ names) name
  pub wanted : wanted_by libraries ≡ wanted_names options names
