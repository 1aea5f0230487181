-- A label stays or improves, whatever items are taken.
use Rattle.station.proofs.Words.{◌≡◌, ℕ, zero, suc, Bool, true, false, Option, Some, None, List, [], ◌∷◌, refl, sym, ap, ◌∙◌, subst, inl, inr, eq-eqb, Algebra, IsLawful, same_no_worse, Item, MessageOn, SignalOn, Network, joined, PartData, state_in, SetupData, network_of, place_in, HandledMany, AllLawful, published_to}
use Rattle.scholten_core.specs.Diffusion.{CoreState, better_of, pump, out_idle, freed}
use Rattle.scholten_core.proofs.Basics.{better_tells, put_tells}
use Rattle.shard_part.specs.Handling.{arrive_here, rest_here, settle_here, settle_tail_here, taken, HandledAll}
use Rattle.station.specs.Turn.{StaysOrImproves, received, SentOff}

module _ {V : Type 0} (A : Algebra V) where
  same_label : IsLawful A → (a b : Option V) → b ≡ a → StaysOrImproves A a b
  same_label L a b e x q = (x, e ∙ q, same_no_worse A.no_worse L.ordered x)

  improved_twice : IsLawful A → (a b c : Option V) → StaysOrImproves A a b → StaysOrImproves A b c → StaysOrImproves A a c
  improved_twice L a b c s t x q = let (y, p, n) = s x q in let (z, r, m) = t y p in (z, r, L.ordered.transitive z y x m n)

  module _ (N : Network) where
    rest_label : (v : ℕ) (d : CoreState V) (o : Option ℕ) (t : Bool) → (rest_here A N v d o t).label ≡ d.label
    rest_label v d None t = refl
    rest_label v d (Some e) false = refl
    rest_label v d (Some e) true = refl

    settle_label : (v : ℕ) (d : CoreState V) → (settle_here A N v d).label ≡ d.label
    settle_label v d = rest_label v (pump A N v d) (d.engager v) (out_idle A N v (pump A N v d))

    tail_label : (a v : ℕ) (d : CoreState V) → (settle_tail_here A N a v d).label ≡ d.label
    tail_label zero v d = refl
    tail_label (suc a) v d = settle_label v d

    arrived : IsLawful A → (a : ℕ) (x : V) (d : CoreState V) (v : ℕ) → StaysOrImproves A (d.label v) ((arrive_here A N a x d).label v)
    arrived L a x d v y q = elim (put_tells d.label (N.head a) (better_of A x (d.label (N.head a))) v) [
      | inl h ↦ (let (z, e, n, better, o) = better_tells A N L x (d.label (N.head a)) in (z, h.1 ∙ e, better y (ap d.label (sym h.0) ∙ q)))
      | inr h ↦ (y, h.1 ∙ q, same_no_worse A.no_worse L.ordered y)
    ]

    one_item : IsLawful A → (i : Item V) (d : CoreState V) (v : ℕ) → StaysOrImproves A (d.label v) ((taken A N i d).label v)
    one_item L (MessageOn a x) d v = subst (λ (f : ℕ → Option V). StaysOrImproves A (d.label v) (f v)) (sym (settle_label (N.head a) (arrive_here A N a x d))) (arrived L a x d v)
    one_item L (SignalOn a) d v = same_label L (d.label v) ((taken A N (SignalOn a) d).label v) (ap (λ (f : ℕ → Option V). f v) (tail_label a (N.tail a) (freed A N a d)))

module _ {S V : Type 0} (meaning : S → Algebra V) (L : AllLawful meaning) where
  all_items : (items : List (Item V)) (p q : PartData S V) (v : ℕ) → place_in p.setup v ≡ p.shard → HandledAll meaning p items q
      → StaysOrImproves (meaning p.setup.diffusion.algebra) ((state_in p).label v) ((state_in q).label v)
  all_items [] p q v own e = same_label (meaning p.setup.diffusion.algebra) (L p.setup.diffusion.algebra) _ _ (ap (λ (z : PartData S V). (state_in z).label v) (sym e))
  all_items (i ∷ is) p q v own (m, T, rest) = let A = meaning p.setup.diffusion.algebra in
      let here : place_in m.setup v ≡ m.shard = ap (λ (t : SetupData S). place_in t v) T.setup ∙ own ∙ sym T.shard in
      improved_twice A (L p.setup.diffusion.algebra) _ ((state_in m).label v) _
      (subst (λ z. StaysOrImproves A ((state_in p).label v) z) (sym (T.tables.label v (eq-eqb _ _ own))) (one_item A (network_of p.setup) (L p.setup.diffusion.algebra) i (state_in p) v))
      (subst (λ (t : SetupData S). StaysOrImproves (meaning t.diffusion.algebra) ((state_in m).label v) ((state_in q).label v)) T.setup (all_items is m q v here rest))

-- what a batch that comes in, or an outbox that goes off, leaves of a part
pub record IsLike {S V : Type 0} (p q : PartData S V) : Type 0 where
  pub setup : q.setup ≡ p.setup
  pub shard : q.shard ≡ p.shard
  pub label : (v : ℕ) → (state_in q).label v ≡ (state_in p).label v

module _ {S V : Type 0} where
  pub received_like : (bs : List (List (Item V))) (p : PartData S V) → IsLike p (received p bs)
  received_like [] p = record { setup = refl; shard = refl; label = λ _. refl }
  received_like (b ∷ bs) p = let r = received_like bs (joined p b) in record { setup = r.setup; shard = r.shard; label = r.label }

  pub sent_queue : (js : List ℕ) (p q : PartData S V) → SentOff js p q → q.queue ≡ p.queue
  sent_queue [] p q e = ap (λ (z : PartData S V). z.queue) (sym e)
  sent_queue (j ∷ js) p q s = sent_queue js (published_to j p) q s.2

  pub sent_like : (js : List ℕ) (p q : PartData S V) → SentOff js p q → IsLike p q
  sent_like [] p q e = record {
    setup = ap (λ (z : PartData S V). z.setup) (sym e);
    shard = ap (λ (z : PartData S V). z.shard) (sym e);
    label = λ v. ap
        (λ (z : PartData S V). (state_in z).label v) (sym e);
  }
  sent_like (j ∷ js) p q s = let r = sent_like js (published_to j p) q s.2 in record { setup = r.setup; shard = r.shard; label = r.label }

module _ {S V : Type 0} (meaning : S → Algebra V) (L : AllLawful meaning) where
  -- a part that takes batches, handles items and sends outboxes off
  pub labels_stay : (p filled emptied q : PartData S V) (n v : ℕ) → IsLike p filled → HandledMany meaning filled n emptied → IsLike emptied q
      → place_in p.setup v ≡ p.shard → StaysOrImproves (meaning p.setup.diffusion.algebra) ((state_in p).label v) ((state_in q).label v)
  labels_stay p filled emptied q n v a (items, l, T) b own =
      let here : place_in filled.setup v ≡ filled.shard = ap (λ (t : SetupData S). place_in t v) a.setup ∙ own ∙ sym a.shard in
      subst (λ z. StaysOrImproves (meaning p.setup.diffusion.algebra) ((state_in p).label v) z) (sym (b.label v))
      (subst (λ z. StaysOrImproves (meaning p.setup.diffusion.algebra) z ((state_in emptied).label v)) (a.label v)
      (subst (λ (t : SetupData S). StaysOrImproves (meaning t.diffusion.algebra) ((state_in filled).label v) ((state_in emptied).label v)) a.setup (all_items meaning L items filled emptied v here T)))
