-- What one section says beside the first of its group. Own.
use Rattle.std.specs.Prelude.{Bool, false, ◌&&◌, if◌then◌else◌}
use Rattle.comdat.specs.declared.candidate.Candidate.{Candidate}
use Rattle.comdat.specs.Choice.{is_same_size, is_exact_match, is_any_or_largest, contents_of, has_size, has_contents}

-- a group that begins with the first one may have the other
abbrev pub agrees : Candidate → Candidate → Bool
agrees first other =
    if is_any_or_largest first then is_any_or_largest other
    else (if is_same_size first then is_same_size other && has_size first.size other
    else (if is_exact_match first then is_exact_match other && has_contents (contents_of first) other
    else false))
