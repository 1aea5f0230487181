use Rattle.batch_run.proofs.Words.{List, ℕ, refl, kind_in, AreBest, ◌≢◌, ◌≡◌, ◌∙◌, ◌+◌, ◌<◌, ◌≤◌, length, map, get_or, subst, sym, arith, err_from_is_err_and, FromSource, Question, IsNextSource, Account, Reported, ReportedPrefix}
use Rattle.std.proofs.lemmas.List.{take_all, get_or_default}
use Rattle.batch_run.specs.Batches.{IsLabellingIn, questions_in}
use Rattle.road_files.specs.declared.questions.Kind.TheVariants.{Sources}
use Rattle.batch_run.proofs.Ahead.{best_kept, kept, not_single}
use Rattle.batch_run.proofs.SourceByMore.{first_source, source_more}
use Rattle.batch_run.proofs.SourcesToCome.{has_source, next_source, some_sources, sources_at, sources_over}
use Rattle.batch_run.proofs.Reporting.{prefix_if_err, prefix_kept, sources_begun, sources_more, sources_stopped, sources_ended}
use Rattle.batch_run.proofs.solve.merge.merge_all.Goals as goal
use Rattle.batch_run.proofs.solve.merge.merge_all.Goals.{In_ok-other}

pub next_labels-requires-clause-source : goal.next_labels-requires-clause-source
next_labels-requires-clause-source g c κs within =
    has_source (questions_in c.args.over.now) c.args.i c.requires.place c.sources-sources.result.now c.sources-sources.ensures 0
    (some_sources c.args.over.now.graph.now.vertices c.args.over.now.batch.now.task.questions.now c.args.i c.args.over.now.within c.requires.place c.sources-sources.result.now c.sources-sources.ensures)

pub next_labels-requires-in-loop-j-clause-source : goal.next_labels-requires-in-loop-j-clause-source
next_labels-requires-in-loop-j-clause-source g c κs within =
    has_source (questions_in c.args.over.now) c.args.i c.requires.place c.sources-sources.result.now c.sources-sources.ensures c.loop-j.j c.loop-j-test.true

pub loop-j-init : goal.loop-j-init
loop-j-init g c =
    let qs = questions_in c.args.over.now in
    let all = sources_at qs c.args.i in
    let are = λ (d : Question). sym (c.sources-sources.ensures (FromSource 0)) ∙ c.sources-sources.ensures d in
    let some = some_sources c.args.over.now.graph.now.vertices c.args.over.now.batch.now.task.questions.now c.args.i c.args.over.now.within c.requires.place all are in
    let source = get_or all 0 0 in
    let is = get_or_default all 0 0 source some in
    let next = next_source qs c.args.i c.requires.place all are 0 source some is in
    let first = first_source all source some is in
    record {
      best = rw first (c.in_ok-merged.ensures.labels source next);
      ready = c.in_ok-merged.ensures.ready;
      reported = sources_begun _ _ _ _ (c.args.i + 1) all source _ _ first (c.in_ok-merged.ensures.reported source next);
    }

-- the source at place j
abbrev source : (g : _) (c : In_ok-other g) → ℕ
source g c = get_or (sources_at (questions_in c.args.over.now) c.args.i) c.loop-j.j 0

low : (g : _) (c : In_ok-other g) → c.loop-j.j < length (sources_at (questions_in c.args.over.now) c.args.i)
low g c = subst (λ (xs : List ℕ). c.loop-j.j < length xs) (c.sources-sources.ensures (FromSource 0)) c.loop-j-test.true

is : (g : _) (c : In_ok-other g) → source g c ≡ get_or (sources_at (questions_in c.args.over.now) c.args.i) c.loop-j.j (source g c)
is g c = get_or_default (sources_at (questions_in c.args.over.now) c.args.i) c.loop-j.j 0 (source g c) (low g c)

-- the next diffusion is from there
next : (g : _) (c : In_ok-other g) → IsNextSource (questions_in c.args.over.now) c.args.i c.loop-j.j (source g c)
next g c =
    next_source (questions_in c.args.over.now) c.args.i c.requires.place (sources_at (questions_in c.args.over.now) c.args.i) (λ (d : Question). sym (c.sources-sources.ensures (FromSource 0)) ∙ c.sources-sources.ensures d) c.loop-j.j (source g c) (low g c) (is g c)

-- there is more than one source, so the questions are of a kind that is not solved ahead
several : (g : _) (c : In_ok-other g) → kind_in c.args.over.now ≢ Sources
several g c =
    let more = low g c in
    not_single c.args.over.now.batch.now.task.questions.now c.args.i c.requires.place (FromSource 0) (sources_at (questions_in c.args.over.now) c.args.i) refl (λ one. omega (arith, more, one, c.loop-j.auto.j))

pub into_labels-labels-requires : goal.into_labels-labels-requires
into_labels-labels-requires g c =
    let at = (goal.at.into_labels-labels-requires g c).In_ok-other in
    kept _ _ _ _ c.loop-j.merged (several g at) c.loop-j.invariant.best

pub into_labels-requires : goal.into_labels-requires
into_labels-requires g c =
    let at = (goal.at.into_labels-requires g c).In_ok-other in
    kept _ _ _ _ c.in_ok-other.other (several g at) (c.in_ok-other.ensures.labels (source g at) (next g at))

pub merge-requires-after_bounds : goal.merge-requires-after_bounds
merge-requires-after_bounds g c κs within =
    let at = (goal.at.merge-requires-after_bounds g c).In_ok-other in
    (best_kept _ _ _ _ c.in_ok-other.other _ (c.in_ok-other.ensures.labels (source g at) (next g at)) c.into_labels.ensures).count
    ∙ sym (best_kept _ _ _ _ c.loop-j.merged _ c.loop-j.invariant.best c.into_labels-labels.ensures).count

pub loop-j-preserved : goal.loop-j-preserved
loop-j-preserved g c =
    let at = (goal.at.loop-j-preserved g c).In_ok-other in
    let all = sources_at (questions_in c.args.over.now) c.args.i in
    record {
      best = source_more (g.A.PathAlgebra.meaning c.args.over.now.batch.now.task.algebra) c.laws_hold.ensures.lawful c.args.over.now.graph.now g.A.PathAlgebra.order c.laws_hold.ensures.order
          all c.loop-j.j (source g at) _ _ _ (low g at) (is g at)
          (best_kept _ _ _ _ c.loop-j.merged _ c.loop-j.invariant.best c.into_labels-labels.ensures) (best_kept _ _ _ _ c.in_ok-other.other _ (c.in_ok-other.ensures.labels (source g at) (next g at)) c.into_labels.ensures)
          c.merge-in-loop-j.ensures.count c.merge-in-loop-j.ensures.labels;
      ready = c.in_ok-other.ensures.ready;
      reported = sources_more _ _ _ _ (c.args.i + 1) all c.loop-j.j (source g at) _ _ _ (low g at) (is g at) c.loop-j.invariant.reported (c.in_ok-other.ensures.reported (source g at) (next g at));
    }

pub returns : goal.returns
returns g c =
    let qs = questions_in c.args.over.now in
    let all = sources_at qs c.args.i in
    let own = c.sources-sources.ensures (FromSource 0) in
    let are = λ (d : Question). sym own ∙ c.sources-sources.ensures d in
    let ended = subst (λ (xs : List ℕ). length xs ≤ c.loop-j.j) own c.loop-j-test.false in
    let some = some_sources c.args.over.now.graph.now.vertices c.args.over.now.batch.now.task.questions.now c.args.i c.args.over.now.within c.requires.place c.sources-sources.result.now c.sources-sources.ensures in
    let last : c.loop-j.j ≡ length c.sources-sources.result.now = omega (arith, some, c.loop-j-test.false, c.loop-j.auto.j-end) in
    record {
      labels = λ d. subst (λ (xs : List ℕ). IsLabellingIn g.A.PathAlgebra.meaning c.args.over.now xs c.loop-j.merged) (take_all c.loop-j.j all ended ∙ are d) c.loop-j.invariant.best;
      ready = rw (← sources_over qs c.args.i c.requires.place c.sources-sources.result.now c.sources-sources.ensures c.loop-j.j last) c.loop-j.invariant.ready;
      stops = tt;
      reported = λ d. subst (λ (xs : List ℕ). Reported (g.A.PathAlgebra.meaning c.args.over.now.batch.now.task.algebra) c.args.over.now.batch.now.settings.now c.args.over.now.graph.now g.O.Watcher.may_become
          (map (Account (c.args.i + 1)) xs) c.args.watcher.now c.loop-j.watcher) (are d) (sources_ended _ _ _ _ (c.args.i + 1) all c.loop-j.j _ _ ended c.loop-j.invariant.reported);
    }

pub returns-in_err-other-clause-reported : goal.returns-in_err-other-clause-reported
returns-in_err-other-clause-reported g c =
    let fault = err_from_is_err_and c.from_residual-in_err-other.result c.from_residual-in_err-other.ensures.1 in
    λ d. prefix_if_err _ _ _ _ _ _ _ _ fault.0 fault.1 (
    subst (λ (xs : List ℕ). ReportedPrefix (g.A.PathAlgebra.meaning c.args.over.now.batch.now.task.algebra) c.args.over.now.batch.now.settings.now c.args.over.now.graph.now g.O.Watcher.may_become
    (map (Account (c.args.i + 1)) xs) c.args.watcher.now c.next_labels-in-loop-j.new.watcher) (sym (c.sources-sources.ensures (FromSource 0)) ∙ c.sources-sources.ensures d)
    (sources_stopped _ _ _ _ (c.args.i + 1) (sources_at (questions_in c.args.over.now) c.args.i) c.loop-j.j _ _ _ c.loop-j.invariant.reported c.in_err-other.ensures.unreported))

pub returns-in_err-merged-clause-reported : goal.returns-in_err-merged-clause-reported
returns-in_err-merged-clause-reported g c =
    let fault = err_from_is_err_and c.from_residual.result c.from_residual.ensures.1 in
    λ d. prefix_if_err _ _ _ _ _ _ _ _ fault.0 fault.1 (prefix_kept _ _ _ _ _ _ _ c.in_err-merged.ensures.unreported)
