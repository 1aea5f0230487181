use Rattle.path_factors.proofs.Words.{sym, subst, IsTrue}
use Rattle.path_factors.proofs.HeadRows.{listed_by_search}
use Rattle.path_factors.proofs.fits.is_listed.Goals as goal

pub returns : goal.returns
returns c =
    let both = listed_by_search c.args.heads.now c.args.place c.binary_search.result c.requires c.binary_search.ensures.position in (
      λ yes. both.0 (subst (λ b. IsTrue b) c.is_ok.ensures.value yes),
      λ listed. subst (λ b. IsTrue b) (sym c.is_ok.ensures.value) (both.1 listed),
    )
