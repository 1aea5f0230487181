-- Batches that came in and outboxes that went off, one after the other.
use Rattle.station.proofs.Words.{◌≡◌, ◌≢◌, ℕ, ◌+◌, Bool, true, false, List, [], ◌∷◌, ◌++◌, get_or, refl, sym, ap, ◌∙◌, subst, arith, length-append, append-nil, from_bool, Algebra, Item, PartData, HoldsReachedShare, published_to, joined, received, SentOff, if_found}
use Rattle.station.specs.Steps.{CameIn, AllCameIn, WentOff}

module _ {S V : Type 0} where
  received_last : (p : PartData S V) (bs : List (List (Item V))) (b : List (Item V)) → received p (bs ++ b ∷ []) ≡ joined (received p bs) b
  received_last p [] b = refl
  received_last p (c ∷ bs) b = received_last (joined p c) bs b

  sent_last : (js : List ℕ) (to : ℕ) (p q r : PartData S V) → SentOff js p q → to ≢ q.shard → get_or q.outs to [] ≢ [] → r ≡ published_to to q → SentOff (js ++ to ∷ []) p r
  sent_last [] to p q r s n o e = (subst (λ (z : PartData S V). to ≢ z.shard) (sym s) n, subst (λ (z : PartData S V). get_or z.outs to [] ≢ []) (sym s) o, ap (published_to to) s ∙ sym e)
  sent_last (j ∷ js) to p q r s n o e = (s.0, s.1, sent_last js to (published_to j p) q r s.2 n o e)

  -- one more may have gone off
  pub went_off : (b : Bool) (js : List ℕ) (to : ℕ) (p q r : PartData S V) → SentOff js p q → WentOff b to q r → SentOff (js ++ if_found b to) p r
  went_off true js to p q r s (ne, o, k) = sent_last js to p q r s ne o k
  went_off false js to p q r s k = subst (λ is. SentOff is p r) (sym (append-nil js)) (subst (λ z. SentOff js p z) (sym k) s)

  -- the part stays that of its diffusion and shard
  pub off_like : (b : Bool) (to : ℕ) (q r : PartData S V) → WentOff b to q r → (r.shard ≡ q.shard) × (r.setup ≡ q.setup)
  off_like true to q r (ne, o, k) = (ap (λ (z : PartData S V). z.shard) k, ap (λ (z : PartData S V). z.setup) k)
  off_like false to q r k = (ap (λ (z : PartData S V). z.shard) k, ap (λ (z : PartData S V). z.setup) k)

  module _ (meaning : S → Algebra V) where
    -- one more may have come in
    pub came_in : (b : Bool) (n : ℕ) (p q r : PartData S V) → AllCameIn meaning n p q → CameIn meaning b q r → (AllCameIn meaning (n + from_bool b) p r) × (r.shard ≡ q.shard) × (r.setup ≡ q.setup)
    came_in true n p q r (bs, l, e, K) ((xs, k), known) = (
      (bs ++ xs ∷ [], length-append bs (xs ∷ []) ∙ ap (λ z. z + 1) l, k ∙ ap (λ z. joined z xs) e ∙ sym (received_last p bs xs), known),
      ap (λ (z : PartData S V). z.shard) k,
      ap (λ (z : PartData S V). z.setup) k,
    )
    came_in false n p q r (bs, l, e, K) k =
        ((bs, l ∙ omega arith, k ∙ e, subst (HoldsReachedShare meaning) (sym k) K), ap (λ (z : PartData S V). z.shard) k, ap (λ (z : PartData S V). z.setup) k)
