use Rattle.path_factors.proofs.Words.{◌≡◌, ℕ, ◌+◌, ◌<◌, ◌∙◌, [], ◌∷◌, ◌++◌, length, get_or, set, ap, sym, subst, arith, common_steps, get_or_default, length-append, ChainData, HasValue, IsMore}
use Rattle.path_factors.proofs.Listing.{pushed_has, pushed_more}
use Rattle.path_factors.proofs.chains.Chains.push.Goals as goal
use Rattle.path_factors.proofs.chains.Chains.push.Goals.{In-Ok}

-- the lists after the step
abbrev after : In-Ok → ChainData
after c = record { firsts = set c.self.inside.firsts.items c.args.list c.in-Ok.item; items = c.push.new.self.items }

step : (c : In-Ok) → HasValue (after c) c.args.list c.args.value × ((m : ℕ) → c.args.value < m → IsMore m c.args.self.now (after c))
step c =
    let firsts = c.self.inside.firsts.items in
    let items = c.self.inside.items.items in
    let list = c.args.list in
    let value = c.args.value in
    let low : list < length firsts = subst (λ (d : ChainData). list < length d.firsts) (sym c.self.view_is) c.requires in
    let next : c.index-next.result.now ≡ get_or firsts list 0 = c.index-next.ensures ∙ get_or_default firsts list c.index-next.result.now 0 low in
    let pushed : c.push.new.self.items ≡ items ++ record { value = value; next = c.index-next.result.now } ∷ [] = grind (arith, common_steps) in
    let all : c.push.new.self.items ≡ items ++ record { value = value; next = get_or firsts list 0 } ∷ [] =
    pushed ∙ ap (λ (n : ℕ). items ++ record { value = value; next = n } ∷ []) next in
    let whole : c.in-Ok.item ≡ length c.push.new.self.items = grind (arith, common_steps) in
    let n = length-append items (record { value = value; next = get_or firsts list 0 } ∷ []) in
    let item : c.in-Ok.item ≡ length items + 1 = omega (arith, whole, ap length all, n) in
    let before : ChainData = record { firsts = firsts; items = items } in
    let is : after c ≡ record { firsts = set firsts list (length items + 1); items = items ++ record { value = value; next = get_or firsts list 0 } ∷ [] } =
    λ i. record { firsts = set firsts list (item i); items = all i } in (
      subst (λ (d : ChainData). HasValue d list value) (sym is) (pushed_has before c.self.invariant list value low),
      λ m small. subst (λ (d : ChainData). IsMore m d (after c)) c.self.view_is
          (subst (λ (d : ChainData). IsMore m before d) (sym is) (pushed_more before c.self.invariant list value low m small)),
    )

pub returns-clause-has : goal.returns-clause-has
returns-clause-has c = (step (goal.at.returns-clause-has c).In-Ok).0

pub returns-clause-more : goal.returns-clause-more
returns-clause-more c = (step (goal.at.returns-clause-more c).In-Ok).1
