use Rattle.shard_store.proofs.Words.{◌≡◌, ◌<◌, List, ℕ, ◌∷◌, length, get_or, ap, sym, ◌∙◌, subst, range_with_len, listed, ArePlacesInRange}
use Rattle.std.specs.Prelude.{Contains}
use Rattle.shard_store.proofs.Increasing.{run_found}
use Rattle.shard_store.proofs.local_vertices.LocalVertices.find.Goals as goal

pub returns-in-Run-clause-inside : goal.returns-in-Run-clause-inside
returns-in-Run-clause-inside c =
    let e : c.args.self.now ≡ 0 ∷ range_with_len c.in-Run.first c.in-Run.count = sym c.self.view_is ∙ ap listed c.in-Run.is in
    subst (λ (xs : List ℕ). c.place_in_run.result < length xs) (sym e)
    (run_found c.in-Run.first c.in-Run.count c.args.v c.place_in_run.result (subst ArePlacesInRange c.in-Run.is c.self.invariant).0
    (subst (λ xs. Contains xs c.args.v) e c.requires.contained) c.place_in_run.ensures.behind c.place_in_run.ensures.before).0

pub returns-in-Run-clause-found : goal.returns-in-Run-clause-found
returns-in-Run-clause-found c =
    let e : c.args.self.now ≡ 0 ∷ range_with_len c.in-Run.first c.in-Run.count = sym c.self.view_is ∙ ap listed c.in-Run.is in
    subst (λ (xs : List ℕ). get_or xs c.place_in_run.result 0 ≡ c.args.v) (sym e)
    (run_found c.in-Run.first c.in-Run.count c.args.v c.place_in_run.result (subst ArePlacesInRange c.in-Run.is c.self.invariant).0
    (subst (λ xs. Contains xs c.args.v) e c.requires.contained) c.place_in_run.ensures.behind c.place_in_run.ensures.before).1
