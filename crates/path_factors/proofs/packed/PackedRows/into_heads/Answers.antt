use Rattle.path_factors.proofs.Words.{◌∙◌, ap, sym, LinkRows, heads_in, heads_packed}
use Rattle.path_factors.proofs.packed.PackedRows.into_heads.Goals as goal

pub returns : goal.returns
returns g c =
    let s = c.self.inside in
    sym (heads_packed s.starts.items s.places.items s.leaving.items c.self.invariant.fields.leaving_count)
    ∙ ap (λ (l : LinkRows g.row.W.Denot). heads_in l.leaving) c.self.view_is
