use Rattle.path_algebra.proofs.laws.best_values_are_unique.Goals as goal

pub returns : goal.returns
returns g c = λ G sources v x y h k.
    c.laws_hold.ensures.lawful.ordered.antisymmetric x y (h.least y k.attained) (k.least x h.attained)
