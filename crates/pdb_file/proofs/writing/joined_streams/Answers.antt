use Rattle.std.proofs.Common.{ℕ, List, [], ◌∷◌, ◌++◌, ap, ◌∙◌}
use Rattle.pdb_file.specs.PdbFile.{database, front_streams, public_streams, pdb_streams}
use Rattle.pdb_file.proofs.writing.joined_streams.Goals as goal

pub returns : goal.returns
unfolding pdb_streams
returns c =
    let parts = c.args.parts.now in
    c.in_ok-push.ensures
    ∙ ap (λ (streams : List (List ℕ)). streams ++ parts.headers.now ∷ [])
    (c.in_ok-push_publics.ensures
    ∙ ap (λ (streams : List (List ℕ)). streams ++ public_streams parts.publics.now)
    (c.in_ok-push_front.ensures ∙ ap (λ (streams : List (List ℕ)). streams ++ front_streams (database parts)) c.new-streams.ensures))
