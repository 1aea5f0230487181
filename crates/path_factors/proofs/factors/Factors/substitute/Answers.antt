use Rattle.path_factors.proofs.factors.Factors.substitute.Goals as goal

pub returns-clause-labels : goal.returns-clause-labels
returns-clause-labels g c = λ yes sources start.
    (c.sweep_up.new.labels, c.sweep_up.ensures.forward c.if-not-sweep_up.false sources start, c.sweep_down.ensures.backward yes)
