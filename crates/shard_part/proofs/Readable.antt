-- The weights say what is where.
use Rattle.shard_part.proofs.Words.{◌≡◌, ◌≢◌, ℕ, suc, ◌+◌, ◌<◌, Bool, true, false, cond, eqb, List, [], ◌∷◌, ◌++◌, refl, sym, ap, ◌∙◌, arith, eq-eqb, ne_eqb, Token, Idle, Message, Held, Signal, Item, MessageOn, SignalOn, Algebra, Lawful, Network, CoreState, item_arc, item_of, PartData, total, is, outs_weight, part_weight, mail_weight, at_place, in_flight, RepresentsIn, total_append, sum_at, sum_zero}
use Rattle.shard_part.specs.ItemPlaces.{with_shard, outs_places, part_places, parts_places, mail_places, on, place_of_token}
use Rattle.shard_part.proofs.TakenIsEvent.{marks, marks_self, marks_true}

module _ {V : Type 0} where
  -- a weighing of items at shards, as one of pairs
  abbrev pair : (ℕ → Item V → ℕ) → ℕ × Item V → ℕ
  pair h e = h e.0 e.1

  shard_total : (h : ℕ → Item V → ℕ) (s : ℕ) (is : List (Item V)) → total (pair h) (with_shard s is) ≡ total (h s) is
  shard_total h s [] = refl
  shard_total h s (i ∷ is) = ap (λ n. h s i + n) (shard_total h s is)

  outs_total : (h : ℕ → Item V → ℕ) (k : ℕ) (os : List (List (Item V))) → total (pair h) (outs_places k os) ≡ outs_weight h k os
  outs_total h k [] = refl
  outs_total h k (o ∷ os) = total_append (pair h) (with_shard k o) (outs_places (suc k) os) ∙ (λ i. shard_total h k o i + outs_total h (suc k) os i)

  mail_total : (h : ℕ → Item V → ℕ) (ms : List (ℕ × List (Item V))) → total (pair h) (mail_places ms) ≡ mail_weight ms h
  mail_total h [] = refl
  mail_total h (m ∷ ms) = total_append (pair h) (with_shard m.0 m.1) (mail_places ms) ∙ (λ i. shard_total h m.0 m.1 i + mail_total h ms i)

  parts_total : {S : Type 0} (h : ℕ → Item V → ℕ) (ps : List (PartData S V)) → total (pair h) (parts_places ps) ≡ total (part_weight h) ps
  parts_total h [] = refl
  parts_total h (p ∷ ps) = total_append (pair h) (part_places p) (parts_places ps)
      ∙ (λ i. (total_append (pair h) (with_shard p.shard p.queue) (outs_places 0 p.outs) ∙ (λ j. shard_total h p.shard p.queue j + outs_total h 0 p.outs j)) i + parts_total h ps i)

  -- weighs what is on the arc b alone
  abbrev only_on : ℕ → (ℕ → Item V → ℕ) → ℕ → Item V → ℕ
  only_on b g s i = cond (eqb (item_arc i) b) (g s i) 0

  on_total : (b : ℕ) (g : ℕ → Item V → ℕ) (es : List (ℕ × Item V)) → total (pair (only_on b g)) es ≡ total (pair g) (on b es)
  on_total b g [] = refl
  on_total b g (e ∷ es) = go (eqb (item_arc e.1) b) (on_total b g es)
    where
      go : (t : Bool) → total (pair (only_on b g)) es ≡ total (pair g) (on b es) → cond t (g e.0 e.1) 0 + total (pair (only_on b g)) es ≡ total (pair g) (cond t (e ∷ on b es) (on b es))
      go true q = ap (λ n. g e.0 e.1 + n) q
      go false q = omega (arith, q)

  none_counted : (xs : List (ℕ × Item V)) → total (λ _. 1) xs ≡ 0 → xs ≡ []
  none_counted [] h = refl
  none_counted (x ∷ xs) h = absurd (omega (arith, h))

  same_one : (A : Algebra V) → Lawful A → (s : ℕ) (i : Item V) (xs : List (ℕ × Item V)) → ((g : ℕ → Item V → ℕ) → total (pair g) xs ≡ g s i + 0) → xs ≡ (s, i) ∷ []
  same_one A L s i [] h = absurd (let q = h (λ _ _. 1) in omega (arith, q))
  same_one A L s i (x ∷ xs) h =
      let c = h (λ _ _. 1) in
      let none = none_counted xs (omega (arith, c)) in
      let q = h (marks A s i) in
      let one = marks_self A L s i in
      let z : total (pair (marks A s i)) xs ≡ 0 = ap (total (pair (marks A s i))) none in
      let m = marks_true A L s i x.0 x.1 (omega (arith, q, one, z)) in
      λ k. (m.0 k, m.1 k) ∷ none k

module _ {V : Type 0} (N : Network) (place : ℕ → ℕ) where
  only_arc : (c : CoreState V) (b : ℕ) (g : ℕ → Item V → ℕ) → b < suc N.arcs → in_flight N place c (only_on b g) ≡ total (at_place N place g) (item_of b (c.token b))
  only_arc c b g lt =
      let differ = sum_at (λ k. total (at_place N place (only_on b g)) (item_of k (c.token k))) (λ _. 0) b (suc N.arcs) lt (λ k n. off k n (c.token k)) in
      let zeros = sum_zero (λ _. 0) (suc N.arcs) (λ _. refl) in
      let here = same (c.token b) in
      omega (arith, differ, zeros, here)
    where
      off : (k : ℕ) → k ≢ b → (t : Token V) → total (at_place N place (only_on b g)) (item_of k t) ≡ 0
      off k n Idle = refl
      off k n Held = refl
      off k n (Message x) = ap (λ (z : Bool). cond z (g (place (N.head k)) (MessageOn k x)) 0 + 0) (ne_eqb k b n)
      off k n Signal = ap (λ (z : Bool). cond z (g (place (N.tail k)) (SignalOn k)) 0 + 0) (ne_eqb k b n)

      same : (t : Token V) → total (at_place N place (only_on b g)) (item_of b t) ≡ total (at_place N place g) (item_of b t)
      same Idle = refl
      same Held = refl
      same (Message x) = ap (λ (z : Bool). cond z (g (place (N.head b)) (MessageOn b x)) 0 + 0) (eq-eqb b b refl)
      same Signal = ap (λ (z : Bool). cond z (g (place (N.tail b)) (SignalOn b)) 0 + 0) (eq-eqb b b refl)

module _ {S V : Type 0} (A : Algebra V) (N : Network) (place : ℕ → ℕ) where
  -- on each arc, the items in all places together, each with the shard that it is at or going to,
  -- are just what the arc's token represents
  pub places_read : Lawful A → (parts : List (PartData S V)) (ms : List (ℕ × List (Item V))) (c : CoreState V) → RepresentsIn A N place parts (mail_weight ms) c → (b : ℕ) → b < suc N.arcs →
      on b (parts_places parts ++ mail_places ms) ≡ place_of_token N place b (c.token b)
  places_read L parts ms c H b lt = go (c.token b) refl
    where
      weighed : (g : ℕ → Item V → ℕ) → total (pair g) (on b (parts_places parts ++ mail_places ms)) ≡ total (at_place N place g) (item_of b (c.token b))
      weighed g = sym (on_total b g (parts_places parts ++ mail_places ms)) ∙ total_append (pair (only_on b g)) (parts_places parts) (mail_places ms)
          ∙ (λ i. parts_total (only_on b g) parts i + mail_total (only_on b g) ms i) ∙ H.weighs (only_on b g) ∙ only_arc N place c b g lt

      go : (t : Token V) → c.token b ≡ t → on b (parts_places parts ++ mail_places ms) ≡ place_of_token N place b t
      go Idle e = none_counted _ (weighed (λ _ _. 1) ∙ ap (λ t. total (at_place N place (λ _ _. 1)) (item_of b t)) e)
      go Held e = none_counted _ (weighed (λ _ _. 1) ∙ ap (λ t. total (at_place N place (λ _ _. 1)) (item_of b t)) e)
      go (Message x) e = same_one A L (place (N.head b)) (MessageOn b x) _ (λ g. weighed g ∙ ap (λ t. total (at_place N place g) (item_of b t)) e)
      go Signal e = same_one A L (place (N.tail b)) (SignalOn b) _ (λ g. weighed g ∙ ap (λ t. total (at_place N place g) (item_of b t)) e)
