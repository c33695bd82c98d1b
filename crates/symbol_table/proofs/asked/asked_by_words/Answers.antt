use Rattle.std.proofs.Common.{◌<◌, List, length, map, subst, sym, arith}
use Rattle.std.specs.List.{All}
use Rattle.std.proofs.lemmas.List.Elements.{All-weaker}
use Rattle.symbol_names.specs.declared.noted.NotedAsked.{NotedAsked}
use Rattle.symbol_names.specs.References.{asked_by_name}
use Rattle.symbol_names.proofs.NumberLemmas.{asked_within}
use Rattle.symbol_table.proofs.asked.asked_by_words.Goals as goal

pub mark_sought-requires : goal.mark_sought-requires
mark_sought-requires c =
    let names = c.note_words.new.names.keys in
    let notes = c.in_ok-list.list.items in
    subst (λ (ns : List NotedAsked). All (λ n. n.name < length c.in_ok-sought.sought.items) ns) (sym c.deref.ensures.value)
    (All-weaker (λ n. n.name < length names) (λ n. n.name < length c.in_ok-sought.sought.items) (λ n below. omega (arith, below, c.in_ok-sought.ensures.len, c.len.ensures.len)) notes
    (asked_within names (map asked_by_name c.args.words.now) notes c.in_ok-list.ensures.noted))
