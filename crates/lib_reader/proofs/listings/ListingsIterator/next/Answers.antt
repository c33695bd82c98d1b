use Rattle.std.proofs.Common.{ℕ, List, ◌-◌, sym, ap, ◌∙◌, arith}
use Rattle.lib_reader.specs.Texts.{texts_end}
use Rattle.lib_reader.specs.Listing.{listed_offset}
use Rattle.lib_reader.proofs.TextsLemmas.{texts_end-first, texts_end-behind}
use Rattle.lib_reader.proofs.ListingLemmas.{listings_from-none, listings_step, listings_less}
use Rattle.lib_reader.proofs.listings.ListingsIterator.next.Goals as goal

pub returns-then-self-eq0-clause-steps : goal.returns-then-self-eq0-clause-steps
returns-then-self-eq0-clause-steps c =
    let none = sym c.self.view_is ∙ listings_from-none _ _ c.self.inside.left _ (omega arith) in (none, none)

pub first_text-name-requires : goal.first_text-name-requires
first_text-name-requires c = texts_end-first c.self.inside.left c.self.inside.names.now (omega arith) c.self.invariant.names_end

pub overflow_add-self : goal.overflow_add-self
overflow_add-self c = omega (arith, c.self.invariant.fits)

pub invariant_of-self : goal.invariant_of-self
invariant_of-self c =
    let inside = c.self.inside in
    record {
      table = c.self.invariant.table;
      there = omega (arith, c.self.invariant.there);
      fits = omega (arith, c.self.invariant.fits);
      names_end =
          ap (λ (text : List ℕ). texts_end (inside.left - 1) text) c.first_text-name.ensures.rest
          ∙ texts_end-behind inside.left inside.names.now (omega arith) c.self.invariant.names_end;
    }

pub returns-clause-steps : goal.returns-clause-steps
returns-clause-steps c =
    let inside = c.self.inside in
    listings_step (listed_offset inside.is_second inside.directory.now) inside.index inside.left c.listed_offset-at.result inside.names.now c.first_text-name.result.0 c.first_text-name.result.1.now c.args.self.now (sym c.self.view_is) (omega arith) c.first_text-name.ensures.text c.first_text-name.ensures.rest c.listed_offset-at.ensures

pub returns-clause-goes : goal.returns-clause-goes
returns-clause-goes c =
    let less = listings_less _ _ _ (returns-clause-steps c) in
    record { on = λ _. (tt, tt, less); keeps = tt; rests = λ _. tt }
