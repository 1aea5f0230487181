use Rattle.std.proofs.Common.{rules, ◌↔◌, IsSome, ◌≤◌, ◌^◌}
use Rattle.path_algebra.proofs.Chosen.{within_is_numbered}
use Rattle.path_algebra.proofs.choice.AlgebraChoice.numbered.Goals as goal

pub returns-in-5-clause-some : goal.returns-in-5-clause-some
returns-in-5-clause-some c =
    let fits : IsSome c.map.result ↔ (c.args.limit ≤ 2 ^ 63) = search rules in
    let named = within_is_numbered c.args.limit in
    rw c.in-5.is (λ some. named.1 (fits.0 some), λ known. fits.1 (named.0 known))
