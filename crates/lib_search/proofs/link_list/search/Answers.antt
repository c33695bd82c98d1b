use Rattle.std.proofs.Common.{ℕ, ◌<◌, ◌≤◌, length, Err, refl, sym, ap, subst, ◌∙◌, arith}
use Rattle.link_base.specs.declared.stop.Stop.{Stop}
use Rattle.link_files.specs.Outside.{files_of}
use Rattle.link_words.specs.Outcome.{options_said}
use Rattle.file_search.specs.DefaultSteps.{wanted_by}
use Rattle.lib_search.specs.SearchSteps.{Searched, join_fault, with_member}
use Rattle.lib_search.specs.LoadingSteps.{state_now, CompletesFrom}
use Rattle.lib_search.proofs.LoadingLemmas.{next_wanted, none_wanted, keeps_search}
use Rattle.lib_search.proofs.GoneLemmas.{GoneOn, gone_read, gone_stops, gone_joins, gone_refused, gone_ends, less_to_read}
use Rattle.lib_search.proofs.link_list.search.Goals as goal

-- ---- a default library is read

pub returns-in-Err : goal.returns-in-Err
returns-in-Err g c =
    let options = options_said c.args.options.now in
    let before = files_of g.F.Files.store g.F.Files.read_faults g.F.Files.write_faults c.args.files.now in
    let after = files_of g.F.Files.store g.F.Files.read_faults g.F.Files.write_faults c.loop-loading.files in
    let later = files_of g.F.Files.store g.F.Files.read_faults g.F.Files.write_faults c.read_default.new.files in
    let loading = c.loop-loading.loading in
    let left : loading.read < length (wanted_by loading.defaults) = omega (arith, c.if-loading-count.true, c.count.ensures) in
    gone_stops options (state_now c.args.loading c.args.inputs.now) before after later loading c.loop-loading.inputs c.read_default.new.inputs c.args.resources.items c.in-Err.stop
    c.loop-loading.invariant (next_wanted options loading c.loop-loading.inputs c.loop-loading.invariant.kept left) c.in-Err.ensures

pub loop-loading-preserved-then-loading-count : goal.loop-loading-preserved-then-loading-count
loop-loading-preserved-then-loading-count g c =
    let options = options_said c.args.options.now in
    let before = files_of g.F.Files.store g.F.Files.read_faults g.F.Files.write_faults c.args.files.now in
    let after = files_of g.F.Files.store g.F.Files.read_faults g.F.Files.write_faults c.loop-loading.files in
    let later = files_of g.F.Files.store g.F.Files.read_faults g.F.Files.write_faults c.read_default.new.files in
    gone_read options (state_now c.args.loading c.args.inputs.now) before after later c.loop-loading.loading c.in-Ok.later c.loop-loading.inputs c.read_default.new.inputs
    c.loop-loading.invariant c.in-Ok.ensures

pub loop-loading-smaller-then-loading-count : goal.loop-loading-smaller-then-loading-count
loop-loading-smaller-then-loading-count g c =
    let options = options_said c.args.options.now in
    let after = files_of g.F.Files.store g.F.Files.read_faults g.F.Files.write_faults c.loop-loading.files in
    let later = files_of g.F.Files.store g.F.Files.read_faults g.F.Files.write_faults c.read_default.new.files in
    let loading = c.loop-loading.loading in
    let left : loading.read < length (wanted_by loading.defaults) = omega (arith, c.if-loading-count.true, c.count.ensures) in
    less_to_read options loading c.in-Ok.later c.loop-loading.inputs c.read_default.new.inputs after later c.loop-loading.invariant.kept left
    (omega (arith, c.count.type_inv, c.count.ensures)) c.in-Ok.ensures

-- ---- none is left to read

pub returns-in_default : goal.returns-in_default
returns-in_default g c =
    let options = options_said c.args.options.now in
    let before = files_of g.F.Files.store g.F.Files.read_faults g.F.Files.write_faults c.args.files.now in
    let after = files_of g.F.Files.store g.F.Files.read_faults g.F.Files.write_faults c.loop-loading.files in
    let loading = c.loop-loading.loading in
    let all_read : length (wanted_by loading.defaults) ≤ loading.read = omega (arith, c.if-loading-count.false, c.count.ensures) in
    gone_ends options (state_now c.args.loading c.args.inputs.now) before after loading c.loop-loading.inputs c.args.resources.items _ c.loop-loading.invariant
    (none_wanted options loading c.loop-loading.inputs c.loop-loading.invariant.kept all_read)
    (sym c.next_member.ensures.place ∙ c.in_default.is)
    (c.finish-modules.ensures.modules ∙ ap (λ (s : Searched). s.link.modules) c.next_member.ensures.same)
    (c.finish-modules.ensures.names ∙ ap (λ (s : Searched). s.link) c.next_member.ensures.same)
    refl

pub returns-in-Err-join_member : goal.returns-in-Err-join_member
returns-in-Err-join_member g c =
    let options = options_said c.args.options.now in
    let state = state_now c.args.loading c.args.inputs.now in
    let before = files_of g.F.Files.store g.F.Files.read_faults g.F.Files.write_faults c.args.files.now in
    let after = files_of g.F.Files.store g.F.Files.read_faults g.F.Files.write_faults c.loop-loading.files in
    let loading = c.loop-loading.loading in
    let all_read : length (wanted_by loading.defaults) ≤ loading.read = omega (arith, c.if-loading-count.false, c.count.ensures) in
    subst (λ (stop : Stop). CompletesFrom options state c.args.resources.items before after (Err stop)) (sym c.from.ensures)
    (gone_refused options state before after loading c.next_member.new.self.searched c.loop-loading.inputs c.in-Some.place c.args.resources.items c.in-Err-join_member.refusal c.loop-loading.invariant
    (none_wanted options loading c.loop-loading.inputs c.loop-loading.invariant.kept all_read)
    (sym c.next_member.ensures.place ∙ c.in-Some.is) c.next_member.ensures.same c.in-Err-join_member.ensures.refused)

pub loop-loading-preserved : goal.loop-loading-preserved
loop-loading-preserved g c =
    let options = options_said c.args.options.now in
    let state = state_now c.args.loading c.args.inputs.now in
    let before = files_of g.F.Files.store g.F.Files.read_faults g.F.Files.write_faults c.args.files.now in
    let after = files_of g.F.Files.store g.F.Files.read_faults g.F.Files.write_faults c.loop-loading.files in
    let loading = c.loop-loading.loading in
    let later = c.join_member.new.loading in
    let gone = c.loop-loading.invariant in
    let place = c.in-Some.place in
    let same = c.next_member.ensures.same in
    let joins = c.in-Ok-join_member.ensures in
    let all_read : length (wanted_by loading.defaults) ≤ loading.read = omega (arith, c.if-loading-count.false, c.count.ensures) in
    subst (λ (total : ℕ). GoneOn options state before after later total) (sym joins.total_kept)
    (gone_joins options state before after loading later c.loop-loading.inputs place gone
    (none_wanted options loading c.loop-loading.inputs gone.kept all_read)
    (sym c.next_member.ensures.place ∙ c.in-Some.is)
    (ap (λ (s : Searched). join_fault s place) (sym same) ∙ joins.accepted)
    (joins.search ∙ ap (λ (s : Searched). with_member s place) same)
    joins.read
    (joins.kept options (keeps_search options loading c.next_member.new.self same c.next_member.ensures.kept gone.kept)))
