use Rattle.std.proofs.Common.{Bool, cond, List, [], ◌∷◌, length, map, Some, None, sym, ap, ◌∙◌, arith}
use Rattle.std.proofs.lemmas.List.{map-append, length-append}
use Rattle.res_merge.specs.Entries.{entry_of}
use Rattle.res_merge.specs.declared.resource.Resource.{Resource}
use Rattle.resource_files.specs.Held.{duplicate}
use Rattle.resource_files.proofs.KeptLemmas.{is_new, is_old, kept_more}
use Rattle.resource_files.proofs.files.ResourceFiles.add.Goals as goal

pub returns-then-not-is_new-clause-refused : goal.returns-then-not-is_new-clause-refused
returns-then-not-is_new-clause-refused c =
    let entry = entry_of c.args.resource in
    let again = is_old c.args.self.now entry c.of.result c.in-Ok.is_new c.requires.kept c.of.ensures.is c.in-Ok.ensures.added c.if-not-is_new.true in
    ap (λ (b : Bool). cond b (Some (duplicate c.args.file.now entry)) None) again
    ∙ ap (λ (file : List _). Some (duplicate file entry)) (sym c.again.ensures)

pub returns-in-Ok-push-clause-accepted : goal.returns-in-Ok-push-clause-accepted
returns-in-Ok-push-clause-accepted c =
    is_new c.args.self.now (entry_of c.args.resource) c.of.result c.in-Ok.is_new c.requires.kept c.of.ensures.is c.in-Ok.ensures.added c.if-not-is_new.false

pub returns-in-Ok-push-clause-kept : goal.returns-in-Ok-push-clause-kept
returns-in-Ok-push-clause-kept c =
    let before = c.args.self.now in
    let entry = entry_of c.args.resource in
    let fresh = is_new before entry c.of.result c.in-Ok.is_new c.requires.kept c.of.ensures.is c.in-Ok.ensures.added c.if-not-is_new.false in
    kept_more before (record before { resources = c.push.new.self; keys = c.insert.new.self }) entry c.of.result c.requires.kept
    (ap (map entry_of) c.in-Ok-push.ensures.items ∙ map-append entry_of before.resources.items (c.args.resource ∷ []))
    (let long = ap (λ (rs : List Resource). length rs) c.in-Ok-push.ensures.items in omega (arith, long, c.requires.few, length-append before.resources.items (c.args.resource ∷ [])))
    c.of.ensures.is c.of.ensures.small c.in-Ok.ensures.keys fresh
