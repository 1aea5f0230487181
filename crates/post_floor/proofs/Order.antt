-- A pair's slots stay in order: each of the four steps on one of them.
use Rattle.std.proofs.Common.{◌≡◌, ◌≢◌, ◌⊎◌, ℕ, zero, suc, ◌+◌, ◌-◌, ◌<◌, ◌≤◌, Bool, cond, refl, sym, ap, ◌∙◌, subst, inl, inr, arith, eq-eqb, ne_eqb}
use Rattle.post_floor.proofs.Words.{cases_eq, cases_lt, empty, filling, full, reading, next_slot, slot_after, AreInOrder}

-- the next slot by cases
next_is : (a : ℕ) → a < 4 → ((a + 1 ≡ 4) × (next_slot a ≡ 0)) ⊎ ((a + 1 < 4) × (next_slot a ≡ a + 1))
next_is a l = elim (cases_eq (a + 1) 4) [
  | inl e ↦ inl (e, ap (λ (b : Bool). cond b 0 (a + 1)) (eq-eqb (a + 1) 4 e))
  | inr ne ↦ inr (omega (arith, l, ne), ap (λ (b : Bool). cond b 0 (a + 1)) (ne_eqb (a + 1) 4 ne))
]

-- so many slots further, without going round or going round once
after_is : (j a : ℕ) → a < 4 → j ≤ 4 → ((a + j < 4) × (slot_after a j ≡ a + j)) ⊎ ((4 ≤ a + j) × (slot_after a j + 4 ≡ a + j))
after_is zero a l m = inl (omega (arith, l), omega arith)
after_is (suc j) a l m = elim (next_is a l) [
  | inl n ↦ (let e : slot_after a (suc j) ≡ slot_after 0 j = ap (λ z. slot_after z j) n.1 in let o = n.0 in elim (after_is j 0 (omega arith) (omega (arith, m))) [
    | inl r ↦ inr ((omega (arith, o), (omega (arith, e, r.1, o))))
    | inr r ↦ absurd (omega (arith, r.0, m))
  ])
  | inr n ↦ (let e : slot_after a (suc j) ≡ slot_after (a + 1) j = ap (λ z. slot_after z j) n.1 in elim (after_is j (a + 1) n.0 (omega (arith, m))) [
    | inl r ↦ inl ((omega (arith, r.0)), (omega (arith, e, r.1)))
    | inr r ↦ inr ((omega (arith, r.0)), (omega (arith, e, r.1)))
  ])
]

pub after_low : (a j : ℕ) → a < 4 → j ≤ 4 → slot_after a j < 4
after_low a j l m = elim (after_is j a l m) [
  | inl r ↦ (omega (arith, r.0, r.1))
  | inr r ↦ (omega (arith, r.1, l, m))
]

-- after four comes the same
after_four : (a : ℕ) → a < 4 → slot_after a 4 ≡ a
after_four a l = elim (after_is 4 a l (omega arith)) [
  | inl r ↦ absurd (omega (arith, r.0))
  | inr r ↦ (omega (arith, r.1))
]

-- the four slots are different ones
after_apart : (a i j : ℕ) → a < 4 → i < 4 → j < 4 → slot_after a i ≡ slot_after a j → i ≡ j
after_apart a i j l li lj e = elim (after_is i a l (omega (arith, li))) [
  | inl r ↦ elim (after_is j a l (omega (arith, lj))) [
    | inl q ↦ (omega (arith, r.1, q.1, e))
    | inr q ↦ absurd (omega (arith, r.1, q.1, e, li, lj))
  ]
  | inr r ↦ elim (after_is j a l (omega (arith, lj))) [
    | inl q ↦ absurd (omega (arith, r.1, q.1, e, li, lj))
    | inr q ↦ (omega (arith, r.1, q.1, e))
  ]
]

-- each slot is one of the four
pub after_onto : (a x : ℕ) → a < 4 → x < 4 → (y : ℕ) × (y < 4) × (slot_after a y ≡ x)
after_onto a x l m = elim (cases_lt x a) [
  | inl b ↦ (let y : ℕ = x + 4 - a in (
    y,
    omega (arith, b, l),
    elim (after_is y a l (omega (arith, b, l))) [
      | inl q ↦ absurd (omega (arith, q.0, b, l))
      | inr q ↦ (omega (arith, q.1, b, l))
    ],
  ))
  | inr b ↦ (let y : ℕ = x - a in (
    y,
    omega (arith, m),
    elim (after_is y a l (omega (arith, m))) [
      | inl q ↦ (omega (arith, q.1, b))
      | inr q ↦ absurd (omega (arith, q.0, b, m))
    ],
  ))
]

after_more : (n a : ℕ) → next_slot (slot_after a n) ≡ slot_after a (suc n)
after_more zero a = refl
after_more (suc n) a = after_more n (next_slot a)

-- all four are empty
pub fresh_order : (word : ℕ → ℕ) (read fill : ℕ) → read ≡ 0 → fill ≡ 0 → ((x : ℕ) → word x ≡ empty) → AreInOrder word read fill
fresh_order word read fill r f zero' = record {
  low = omega (arith, r);
  count = 0;
  few = omega arith;
  fill_is = f ∙ sym r;
  taken = λ j l. absurd (omega (arith, l));
  free = λ j m l. inl (zero' (slot_after read j));
}

-- the sender's next slot is one of the four
pub fill_low : (word : ℕ → ℕ) (read fill : ℕ) → AreInOrder word read fill → fill < 4
fill_low word read fill o = subst (λ z. z < 4) (sym o.fill_is) (after_low read o.count o.low o.few)

-- the numbers of the slots other than s stay
abbrev pub Elsewhere : ℕ → (ℕ → ℕ) → (ℕ → ℕ) → Type 0
Elsewhere s word word' = (x : ℕ) → x < 4 → x ≢ s → word' x ≡ word x

module _ (word word' : ℕ → ℕ) (read fill : ℕ) (o : AreInOrder word read fill) where
  abbrev slot : ℕ → ℕ
  slot j = slot_after read j

  -- nothing changes
  pub order_same : ((x : ℕ) → x < 4 → word' x ≡ word x) → AreInOrder word' read fill
  order_same same = let at : (j : ℕ) → j < 4 → word' (slot j) ≡ word (slot j) = λ j l. same (slot j) (after_low read j o.low (omega (arith, l))) in let few = o.few in record {
    low = o.low;
    count = o.count;
    few = o.few;
    fill_is = o.fill_is;
    taken = λ j l. let e = at j (omega (arith, l, few)) in elim (o.taken j l) [ inl w ↦ inl (e ∙ w) | inr w ↦ inr (w.0, e ∙ w.1) ];
    free = λ j m l. let e = at j l in elim (o.free j m l) [ inl w ↦ inl (e ∙ w) | inr w ↦ inr (w.0, e ∙ w.1) ];
  }

  -- the sender's next slot is neither full nor being read, so not all four are
  not_all : (word fill ≡ empty) ⊎ (word fill ≡ filling) → o.count < 4
  not_all w = elim (cases_eq o.count 4) [
    | inl e ↦ absurd (
        let at : slot 0 ≡ fill = sym (after_four read o.low) ∙ ap slot (sym e) ∙ sym o.fill_is in
        let same : word (slot 0) ≡ word fill = ap word at in
        elim (o.taken 0 (omega (arith, e))) [
          | inl f ↦ elim w [ inl z ↦ omega (arith, same, f, z) | inr z ↦ omega (arith, same, f, z) ]
          | inr r ↦ (let f = r.1 in elim w [ inl z ↦ omega (arith, same, f, z) | inr z ↦ omega (arith, same, f, z) ])
        ])
    | inr ne ↦ (omega (arith, ne, o.few))
  ]

  -- the sender begins to fill
  pub order_fill : word fill ≡ empty → word' fill ≡ filling → Elsewhere fill word word' → AreInOrder word' read fill
  order_fill was now else' =
      let less = not_all (inl was) in
      let at : (j : ℕ) → j < 4 → j ≢ o.count → word' (slot j) ≡ word (slot j) = λ j l ne.
      else' (slot j) (after_low read j o.low (omega (arith, l))) (λ e. ne (after_apart read j o.count o.low l less (e ∙ o.fill_is))) in record {
        low = o.low;
        count = o.count;
        few = o.few;
        fill_is = o.fill_is;
        taken = λ j l. let e = at j (omega (arith, l, less)) (λ q. omega (arith, q, l)) in elim (o.taken j l) [ inl w ↦ inl (e ∙ w) | inr w ↦ inr (w.0, e ∙ w.1) ];
        free = λ j m l. elim (cases_eq j o.count) [
          | inl e ↦ inr (e, ap (λ z. word' (slot z)) e ∙ ap word' (sym o.fill_is) ∙ now)
          | inr ne ↦ (let e = at j l ne in elim (o.free j m l) [ inl w ↦ inl (e ∙ w) | inr w ↦ absurd (ne w.0) ])
        ];
      }

  -- the sender has filled
  pub order_publish : word fill ≡ filling → word' fill ≡ full → Elsewhere fill word word' → AreInOrder word' read (next_slot fill)
  order_publish was now else' =
      let less = not_all (inr was) in
      let at : (j : ℕ) → j < 4 → j ≢ o.count → word' (slot j) ≡ word (slot j) = λ j l ne.
      else' (slot j) (after_low read j o.low (omega (arith, l))) (λ e. ne (after_apart read j o.count o.low l less (e ∙ o.fill_is))) in record {
        low = o.low;
        count = suc o.count;
        few = omega (arith, less);
        fill_is = ap next_slot o.fill_is ∙ after_more o.count read;
        taken = λ j l. elim (cases_eq j o.count) [
          | inl e ↦ inl (ap (λ z. word' (slot z)) e ∙ ap word' (sym o.fill_is) ∙ now)
          | inr ne ↦ (let e = at j (omega (arith, l, less)) ne in elim (o.taken j (omega (arith, l, ne))) [ inl w ↦ inl (e ∙ w) | inr w ↦ inr (w.0, e ∙ w.1) ])
        ];
        free = λ j m l. let ne : j ≢ o.count = λ q. omega (arith, q, m) in let e = at j l ne in elim (o.free j (omega (arith, m)) l) [ inl w ↦ inl (e ∙ w) | inr w ↦ absurd (ne w.0) ];
      }

  -- the receiver's next slot is neither empty nor being filled, so one is full
  some_taken : (word read ≡ full) ⊎ (word read ≡ reading) → 0 < o.count
  some_taken w = elim (cases_eq o.count 0) [
    | inl e ↦ absurd (elim (o.free 0 (omega (arith, e)) (omega arith)) [
      | inl f ↦ elim w [ inl z ↦ omega (arith, f, z) | inr z ↦ omega (arith, f, z) ]
      | inr r ↦ (let f = r.1 in elim w [ inl z ↦ omega (arith, f, z) | inr z ↦ omega (arith, f, z) ])
    ])
    | inr ne ↦ omega (arith, ne)
  ]

  -- the receiver begins to read
  pub order_read : word read ≡ full → word' read ≡ reading → Elsewhere read word word' → AreInOrder word' read fill
  order_read was now else' =
      let few = o.few in
      let at : (j : ℕ) → j < 4 → j ≢ 0 → word' (slot j) ≡ word (slot j) = λ j l ne.
      else' (slot j) (after_low read j o.low (omega (arith, l))) (λ e. ne (after_apart read j 0 o.low l (omega arith) e)) in record {
        low = o.low;
        count = o.count;
        few = o.few;
        fill_is = o.fill_is;
        taken = λ j l. elim (cases_eq j 0) [
          | inl e ↦ inr (e, ap (λ z. word' (slot z)) e ∙ now)
          | inr ne ↦ (let e = at j (omega (arith, l, few)) ne in elim (o.taken j l) [ inl w ↦ inl (e ∙ w) | inr w ↦ absurd (ne w.0) ])
        ];
        free = λ j m l. let e = at j l (λ q. omega (arith, q, m, some_taken (inl was))) in elim (o.free j m l) [ inl w ↦ inl (e ∙ w) | inr w ↦ inr (w.0, e ∙ w.1) ];
      }

  -- the receiver has read
  pub order_clear : word read ≡ reading → word' read ≡ empty → Elsewhere read word word' → AreInOrder word' (next_slot read) fill
  order_clear was now else' =
      let few = o.few in
      let at : (j : ℕ) → suc j < 4 → word' (slot (suc j)) ≡ word (slot (suc j)) = λ j l.
      else' (slot (suc j)) (after_low read (suc j) o.low (omega (arith, l))) (λ e. absurd (let q = after_apart read (suc j) 0 o.low l (omega arith) e in omega (arith, q))) in
      let less : suc (o.count - 1) ≡ o.count = omega (arith, some_taken (inr was)) in record {
        low = after_low read 1 o.low (omega arith);
        count = o.count - 1;
        few = omega (arith, few);
        fill_is = o.fill_is ∙ ap slot (sym less);
        taken = λ j l. let e = at j (omega (arith, l, few, less)) in elim (o.taken (suc j) (omega (arith, l, less))) [ inl w ↦ inl (e ∙ w) | inr w ↦ absurd (let q = w.0 in omega (arith, q)) ];
        free = λ j m l. elim (cases_eq j 3) [
          | inl e ↦ inl (ap (λ z. word' (slot_after read (suc z))) e ∙ ap word' (after_four read o.low) ∙ now)
          | inr ne ↦ (let e = at j (omega (arith, l, ne)) in elim (o.free (suc j) (omega (arith, m, less)) (omega (arith, l, ne))) [ inl w ↦ inl (e ∙ w) | inr w ↦ inr ((let q = w.0 in omega (arith, q, less)), e ∙ w.1) ])
        ];
      }
