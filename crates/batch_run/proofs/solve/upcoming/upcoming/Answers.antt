use Rattle.batch_run.proofs.Words.{rules, arith, ◌≡◌, ◌-◌, ◌<◌, ◌++◌, ◌∙◌, ap, drop, length, take, asked_of, FromSource}
use Rattle.std.proofs.lemmas.List.{length-drop, take_all}
use Rattle.batch_run.proofs.SourcesToCome.{first_collected, kept_few, more_collected}
use Rattle.batch_run.proofs.solve.upcoming.upcoming.Goals as goal

pub offset_bounds-sources-j : goal.offset_bounds-sources-j
offset_bounds-sources-j c = omega (arith, c.requires.source (FromSource 0), ap (λ (l : _). length l) (c.sources.ensures (FromSource 0)))

pub slice_bounds-fill_up-count : goal.slice_bounds-fill_up-count
slice_bounds-fill_up-count c = omega (arith, c.requires.source (FromSource 0), ap (λ (l : _). length l) (c.sources.ensures (FromSource 0)))

pub slice_bounds-fill_up-start : goal.slice_bounds-fill_up-start
slice_bounds-fill_up-start c = omega (arith, c.requires.source (FromSource 0), ap (λ (l : _). length l) (c.sources.ensures (FromSource 0)))

pub loop-later-init : goal.loop-later-init
loop-later-init c =
    let own = c.sources.result.now in
    let rest : take (length c.sources.result.now - c.args.j) (drop c.args.j c.sources.result.now) ≡ drop c.args.j c.sources.result.now =
    take_all (length own - c.args.j) (drop c.args.j own) (omega (arith, length-drop c.args.j c.sources.result.now)) in
    record {
      few = kept_few _ _ c.args.width c.in_ok-fill_up.ensures;
      collected = first_collected (asked_of c.args.questions.now).questions c.args.width c.args.i c.args.j (FromSource 0) c.requires c.fill_up.new.sources.items
          (c.in_ok-fill_up.ensures ∙ ap (λ l. take c.args.width (l ++ take (length own - c.args.j) (drop c.args.j own))) c.new-sources.ensures.items ∙ ap (take c.args.width) rest
          ∙ ap (λ l. take c.args.width (drop c.args.j l)) (c.sources.ensures (FromSource 0)));
    }

pub loop-later-preserved : goal.loop-later-preserved
loop-later-preserved c =
    let low : c.loop-later.later < length (asked_of c.args.questions.now).questions = search rules in
    record {
      few = kept_few _ _ c.args.width c.in_ok-fill_up-2.ensures;
      collected = more_collected (asked_of c.args.questions.now).questions c.args.width c.args.i c.args.j c.loop-later.later c.loop-later.sources.items
          c.loop-later.invariant.collected (FromSource 0) low c.fill_up-in-loop-later.new.sources.items
          (c.in_ok-fill_up-2.ensures ∙ ap (λ l. take c.args.width (c.loop-later.sources.items ++ l)) (c.sources-in-loop-later.ensures (FromSource 0)));
    }
