use Rattle.std.proofs.Common.{rules, ◌≡◌, ◌-◌, ◌∙◌, ap, length, min}
use Rattle.batch_run.proofs.SourcesToCome.{filled}
use Rattle.batch_run.proofs.solve.upcoming.fill_up.Goals as goal

pub returns : goal.returns
returns c =
    let many : c.len.result ≡ length c.args.sources.now.items = search rules in
    let few : c.min-few.result ≡ min (c.args.width - length c.args.sources.now.items) (length c.args.more.now) =
    c.min-few.ensures ∙ ap (λ n. min (c.args.width - n) (length c.args.more.now)) many in
    c.in_ok-extend_from_slice.ensures.items ∙ filled c.args.sources.now.items c.args.more.now c.args.width c.min-few.result c.requires few
