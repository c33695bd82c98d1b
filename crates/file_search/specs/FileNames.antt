-- The names under which a file is looked for (MSVC linker reference, "/LIBPATH" and "/DEFAULTLIB"; which slashes count is own).
use Rattle.std.specs.Prelude.{ℕ, if◌then◌else◌, List, [], ◌∷◌, ◌++◌, map, codes}
use Rattle.std.specs.List.{after_last}
use Rattle.directives.specs.Text.{has, is_dot}
use Rattle.link_words.specs.Extension.{is_slash}

abbrev pub in_folder : List ℕ → List ℕ → List ℕ
in_folder name folder = folder ++ codes "/" ++ name

-- as it is given, and then in each folder of libraries; a name with a slash is looked for as it is given alone
unfoldable pub tried_names : List (List ℕ) → List ℕ → List (List ℕ)
tried_names folders name = if has is_slash name then name ∷ [] else name ∷ map (in_folder name) folders

-- the name of a default library: `.lib` follows a name that has no dot after its last slash
unfoldable pub completed : List ℕ → List ℕ
completed name = if has is_dot (after_last is_slash name) then name else name ++ codes ".lib"
