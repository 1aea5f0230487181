-- Parts and mailboxes show a state: where one part takes items, they show the state after the
-- events of these.
use Rattle.shard_part.proofs.Words.{◌≡◌, ℕ, List, [], ◌∷◌, ◌++◌, length, map, refl, sym, ◌∙◌, subst, arith, cond-true, length-map, Item, Event, Algebra, WellFormed, CoreState, step, run_from, opening, state_after, count_enabled, is_enabled, CoreInvariant, step_kept, run_kept, opening_kept, PartData, event_of, SetupData, network_of, HandledAll, Represents, core_of}
use Rattle.shard_part.specs.Part.{HandledMany, IsShownOn}
use Rattle.shard_part.proofs.Showing.{AllLawful, handled_shows}
use Rattle.shard_part.proofs.TakenCounts.{run_append}

module _ {S V : Type 0} (meaning : S → Algebra V) where
  shows_all : AllLawful meaning → (t : SetupData S) → WellFormed (network_of t)
      → (items : List (Item V)) (before after : List (PartData S V)) (p q : PartData S V) (mail : (ℕ → Item V → ℕ) → ℕ) (c : CoreState V) →
      CoreInvariant (meaning t.diffusion.algebra) (network_of t) 0 c → Represents meaning t (before ++ p ∷ after) mail c → HandledAll meaning p items q →
      (count_enabled (meaning t.diffusion.algebra) (network_of t) c (map event_of items) ≡ length items)
      × Represents meaning t (before ++ q ∷ after) mail (run_from (meaning t.diffusion.algebra) (network_of t) c (map event_of items))
  shows_all L t W [] before after p q mail c K H e = (refl, subst (λ (u : PartData S V). Represents meaning t (before ++ u ∷ after) mail c) e H)
  shows_all L t W (i ∷ is) before after p q mail c K H (m, T, rest) =
      let one = handled_shows meaning L t W before after p m i mail c K H T in
      let more = shows_all L t W is before after m q mail (step (meaning t.diffusion.algebra) (network_of t) c (event_of i))
      (step_kept (meaning t.diffusion.algebra) (network_of t) (L t.diffusion.algebra) W c (event_of i) K) one.1 rest in
      ((let r = more.0 in let first = cond-true {A = ℕ} (is_enabled c (event_of i)) 1 0 one.0 in omega (arith, r, first)), more.1)

  -- on the state after some events
  pub many_shown : AllLawful meaning → (t : SetupData S) (events : List Event) (before after : List (PartData S V)) (p q : PartData S V) (n : ℕ) (mail : (ℕ → Item V → ℕ) → ℕ) →
      WellFormed (network_of t) →
      Represents meaning t (before ++ p ∷ after) mail (core_of meaning t events) → HandledMany meaning p n q
      → IsShownOn meaning t events (before ++ q ∷ after) mail n
  many_shown L t events before after p q n mail W H (items, l, T) =
      let A = meaning t.diffusion.algebra in
      let N = network_of t in
      let R = shows_all L t W items before after p q mail (state_after A N events) (run_kept A N (L t.diffusion.algebra) W (opening A N) events (opening_kept A N W)) H T in
      record {
        more = map event_of items;
        count = length-map items event_of ∙ l;
        enabled = R.0 ∙ l;
        shown = subst (Represents meaning t (before ++ q ∷ after) mail) (sym (run_append A N (opening A N) events (map event_of items))) R.1;
      }
