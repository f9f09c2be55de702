-- The orders of ranks keep the laws.
use Rattle.std.specs.Prelude.{◌≡◌, ℕ, ◌*◌, ◌≤◌, Bool, true, false, cond, not, ◌||◌, leb, nat_le}
use Rattle.std.proofs.Common.{ap, inl, inr, arith, mul-le-mul_right, mul_right_comm, mul-zero, one-mul, le_of_mul-le-mul_right}
use Rattle.std.proofs.lemmas.Bool.{and_parts, and_from, and_cases, or_cases, or_left, or_right, or_parts, not-true, not-false, not_from_false, leb-true, leb-false, le-leb, both_ways, cases_Bool, cases_eq, eq-eqb}
use Rattle.rank.specs.Orders.{LawfulOrder, by_state, weight, no_smaller_share}

-- A test by which ranks are compared before their states are: of two at least one passes, and it carries over.
pub record Preorder {X : Type 0} (test : X → X → Bool) : Type 0 where
  pub total : (a b : X) → test a b ≡ false → test b a ≡ true
  pub transitive : (a b c : X) → test a b ≡ true → test b c ≡ true → test a c ≡ true

module _ {X : Type 0} (test : X → X → Bool) (state : X → ℕ) where
  at : (a b : X) → by_state test state a b ≡ true → test a b ≡ true
  at a b h = (and_parts (test a b) (not (test b a) || nat_le (state a) (state b)) h).0

  by : (a b : X) → by_state test state a b ≡ true → test b a ≡ true → state a ≤ state b
  by a b h back =
      elim (or_cases (not (test b a)) (nat_le (state a) (state b)) (and_parts (test a b) (not (test b a) || nat_le (state a) (state b)) h).1) [
        | inl no_back ↦ absurd (both_ways (test b a) (not-true (test b a) no_back) back)
        | inr le ↦ leb-true (state a) (state b) le
      ]

  make : (a b : X) → test a b ≡ true → (test b a ≡ true → state a ≤ state b) → by_state test state a b ≡ true
  make a b h le =
      and_from (test a b) (not (test b a) || nat_le (state a) (state b)) h
      (elim (cases_Bool (test b a)) [
        | inl back ↦ or_right (not (test b a)) (nat_le (state a) (state b)) (le-leb (state a) (state b) (le back))
        | inr none ↦ or_left (not (test b a)) (nat_le (state a) (state b)) (not_from_false (test b a) none)
      ])

  pub by_state_lawful : Preorder test → LawfulOrder state (by_state test state)
  by_state_lawful pre = record {
    total = λ a b. elim (cases_Bool (by_state test state a b)) [
      | inl h ↦ inl h
      | inr h ↦ inr (elim (and_cases (test a b) (not (test b a) || nat_le (state a) (state b)) h) [
        | inl none ↦ make b a (pre.total a b none) (λ back. absurd (both_ways (test a b) none back))
        | inr later ↦
            let parts = or_parts (not (test b a)) (nat_le (state a) (state b)) later in
            make b a (not-false (test b a) parts.0) (λ _. omega (arith, leb-false (state a) (state b) parts.1))
      ])
    ];
    onward = λ a b c h k. make a c (pre.transitive a b c (at a b h) (at b c k)) (λ back.
        let first : state a ≤ state b = by a b h (pre.transitive b c a (at b c k) back) in
        let second : state b ≤ state c = by b c k (pre.transitive c a b back (at a b h)) in
        omega arith);
    same = λ a b h k.
        let first : state a ≤ state b = by a b h (at b a k) in
        let second : state b ≤ state a = by b a k (at a b h) in
        omega arith;
  }

pub least_first : {X : Type 0} (key : X → ℕ) → Preorder (λ a b. leb (key a) (key b))
least_first key = record {
  total = λ a b h. le-leb (key b) (key a) (omega (arith, leb-false (key a) (key b) h));
  transitive = λ a b c h k. le-leb (key a) (key c) (omega (arith, leb-true (key a) (key b) h, leb-true (key b) (key c) k));
}

crossed : (a u b v c w : ℕ) → (v ≡ 0 → b ≡ 1) → b * u ≤ a * v → c * v ≤ b * w → c * u ≤ a * w
crossed a u b v c w alone h k =
    elim (cases_eq v 0) [
      | inl none ↦
          let low : b * u ≤ a * 0 = rw none at h in
          let lone : 1 * u ≤ a * 0 = rw (alone none) at low in
          let gone : u ≡ 0 = omega (arith, one-mul u, mul-zero a) in
          rw (gone, mul-zero) (omega arith)
      | inr some ↦
          let first : c * v * u ≤ b * w * u = mul-le-mul_right u k in
          let second : b * u * w ≤ a * v * w = mul-le-mul_right w h in
          let third : c * u * v ≤ a * w * v = omega (arith, mul_right_comm c v u, mul_right_comm b w u, mul_right_comm a v w) in
          le_of_mul-le-mul_right third (omega arith)
    ]

pub largest_share_first : {X : Type 0} (over under : X → ℕ) → Preorder (λ a b. no_smaller_share (over a) (under a) (over b) (under b))
largest_share_first {X} over under =
    let key : X → ℕ = λ x. weight (over x) (under x) in
    record {
      total = λ a b h. le-leb (key a * under b) (key b * under a) (omega (arith, leb-false (key b * under a) (key a * under b) h));
      transitive = λ a b c h k. le-leb (key c * under a) (key a * under c)
          (crossed (key a) (under a) (key b) (under b) (key c) (under c) (λ e. ap (λ t. cond t 1 (over b)) (eq-eqb (under b) 0 e))
          (leb-true (key b * under a) (key a * under b) h) (leb-true (key c * under b) (key b * under c) k));
    }
