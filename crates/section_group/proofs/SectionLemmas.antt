-- Sections from what was gathered.
use Rattle.std.proofs.Common.{◌≡◌, ℕ, ◌<◌, List, [], length, get_or, map, Vec, sym, ap, ◌∙◌, arith}
use Rattle.std.specs.List.{All}
use Rattle.std.specs.declared.alloc.Global.{Global}
use Rattle.std.proofs.lemmas.Bool.{and_parts}
use Rattle.std.proofs.lemmas.List.{get_or_default, length-map}
use Rattle.std.proofs.lemmas.List.Elements.{Contains-get_or}
use Rattle.std.proofs.Math.ListN.{get_or-map}
use Rattle.section_group.specs.declared.homes.Home.{Home}
use Rattle.section_group.specs.SectionOrder.{Input, is_used}
use Rattle.section_group.specs.Keys.{IsWithin}
use Rattle.section_group.specs.Sections.{Gathers, pieces_at}
use Rattle.section_group.proofs.PartLemmas.{used_within}

-- the pieces of a vector of vectors
pub pieces_read : (members : List (Vec ℕ Global)) (section : ℕ) (v : Vec ℕ Global) → section < length members → v ≡ get_or members section v → v.items ≡ pieces_at members section
pieces_read members section v lt is =
    ap (λ (w : Vec ℕ Global). w.items) is ∙ sym (get_or-map (λ (w : Vec ℕ Global). w.items) members section v)
    ∙ get_or_default (map (λ (w : Vec ℕ Global). w.items) members) section v.items [] (omega (arith, length-map members (λ (w : Vec ℕ Global). w.items)))

-- a member is a piece
pub members_within : (input : Input) (homes : List Home) (members : List (Vec ℕ Global)) (section : ℕ) → Gathers input homes members → section < length homes → All (IsWithin (length input.pieces)) (pieces_at members section)
members_within input homes members section gathered lt = λ k d within.
    let there = Contains-get_or (pieces_at members section) k d within in
    let goes = (gathered.exact section (get_or (pieces_at members section) k d) lt).0 there in
    used_within input (get_or (pieces_at members section) k d) (and_parts (is_used input (get_or (pieces_at members section) k d)) _ goes).0
