-- A queue that gathers the ranks of the states, and what is then taken from it.
use Rattle.std.proofs.Common.{◌≡◌, ℕ, ◌+◌, ◌<◌, ◌≤◌, Bool, true, false, List, [], ◌∷◌, ◌++◌, length, take, Ok, Err, Result, Some, None, Option, MatchOption, sym, ap, ◌∙◌, subst, subst₂, inl, inr, arith, length-drop, MatchResult}
use Rattle.std.specs.List.{AllByRecursion}
use Rattle.std.specs.Result.{result_ok}
use Rattle.std.proofs.lemmas.List.{get_or-take, length-take-le}
use Rattle.std.proofs.ByRecursion.{All-from_get_or, All-push, all_shuffled}
use Rattle.std.proofs.lemmas.List.Sorted.{IsPermutation-sym}
use Rattle.std.proofs.lemmas.Bool.{cases_lt}
use Rattle.course.specs.declared.refusal.Refusal.{Refusal}
use Rattle.course.specs.Refusals.{number_of}
use Rattle.queue.specs.declared.row_queue.Queue.{Queue}
use Rattle.queue.specs.Held.{Put, Unchanged, Taken}
use Rattle.planner.specs.Scans.{FirstRank}

-- What a put answers.
abbrev pub PutAnswered : {R : Type 0} → R → List R → ℕ → List R → ℕ → Result (Unit {0}) Refusal → Type 0
PutAnswered x row n row' n' a = MatchResult a (λ _. Put x row n row' n') (λ e. (number_of e ≡ 39) × (n ≡ length row) × Unchanged row n row' n')

-- What a take answers, as an option.
pub taken_ok : {T E : Type 0} {P : T → Type 0} {Q : E → Type 0} (S : Option T → Type 0) {o : Option T} (r : Result T E) → o ≡ result_ok r → MatchResult r P Q → ((x : T) → P x → S (Some x)) → ((e : E) → Q e → S None) → S o
taken_ok S (Ok x) e taken some none = subst S (sym e) (some x taken)
taken_ok S (Err x) e empty some none = subst S (sym e) (none x empty)

-- A rank that was answered of a state below `states`.
pub record Made {R : Type 0} (answers : ℕ → Option R → Type 0) (states : ℕ) (x : R) : Type 0 where
  pub u : ℕ
  pub low : u < states
  pub answered : answers u (Some x)

-- x is among xs, told by tests: whatever test all of xs pass, x passes.
abbrev pub Among : {R : Type 0} → R → List R → Type 0
Among {R} x xs = (test : R → Bool) → AllByRecursion (λ y. test y ≡ true) xs → test x ≡ true

-- Something was answered of u, and if it is a rank, it is among xs.
abbrev pub Asked : {R : Type 0} → (ℕ → Option R → Type 0) → List R → ℕ → Type 0
Asked {R} answers xs u = (o : Option R) × answers u o × MatchOption o (Unit {0}) (λ x. Among x xs)

-- The first n of the row are the ranks of the states below i.
pub record Gathered {R : Type 0} (answers : ℕ → Option R → Type 0) (states : ℕ) (row : List R) (n i : ℕ) : Type 0 where
  pub few : n ≤ i
  pub only : AllByRecursion (Made answers states) (take n row)
  pub each : (u : ℕ) → u < i → Asked answers (take n row) u

-- The last of a list, and what is before it.
all_but_last : {R : Type 0} (P : R → Type 0) (xs : List R) (x : R) → AllByRecursion P (xs ++ x ∷ []) → AllByRecursion P xs
all_but_last P [] x h = tt
all_but_last P (y ∷ ys) x h = (h.0, all_but_last P ys x h.1)

all_last : {R : Type 0} (P : R → Type 0) (xs : List R) (x : R) → AllByRecursion P (xs ++ x ∷ []) → P x
all_last P [] x h = h.0
all_last P (y ∷ ys) x h = all_last P ys x h.1

-- A put keeps the row's length.
put_length : {R : Type 0} (x : R) (row row' : List R) (n n' : ℕ) (a : Result (Unit {0}) Refusal) → n' ≤ length row' → PutAnswered x row n row' n' a → length row' ≡ length row
put_length x row row' n n' (Ok v) fits put = omega (arith, put.room, put.more, length-drop n' row, length-drop n' row', ap length put.rest)
put_length x row row' n n' (Err e) fits full = ap length full.2.same

-- Where a fact of each rank gives another, so it does of a rank, if any.
if_any : {R : Type 0} (P Q : R → Type 0) → ((x : R) → P x → Q x) → (o : Option R) → MatchOption o (Unit {0}) P → MatchOption o (Unit {0}) Q
if_any P Q gives None h = tt
if_any P Q gives (Some x) h = gives x h

module _ {R : Type 0} {answers : ℕ → Option R → Type 0} {states : ℕ} where
  -- Before the first state.
  gathered_none : (row : List R) (n : ℕ) → n ≡ 0 → Gathered answers states row n 0
  gathered_none row n e = record {
    few = omega arith;
    only = subst (λ (k : ℕ). AllByRecursion (Made answers states) (take k row)) (sym e) tt;
    each = λ u low. absurd (omega arith);
  }

  -- A state that has no rank is passed over.
  gathered_skip : {row : List R} {n i : ℕ} → answers i None → Gathered answers states row n i → Gathered answers states row n (i + 1)
  gathered_skip {row} {n} {i} none old = record {
    few = omega (arith, old.few);
    only = old.only;
    each = λ u low. elim (cases_lt u i) [
      | inl below ↦ old.each u below
      | inr high ↦ let e : u ≡ i = omega arith in subst (λ (k : ℕ). Asked answers (take n row) k) (sym e) (None, none, tt)
    ];
  }

  -- A rank is put.
  gathered_put : {row row' : List R} {n n' i : ℕ} {x : R} → i < states → answers i (Some x) → Put x row n row' n' → Gathered answers states row n i → Gathered answers states row' n' (i + 1)
  gathered_put {row} {row'} {n} {n'} {i} {x} low is put old = record {
    few = omega (arith, old.few, put.more);
    only = all_shuffled (Made answers states) (take n row ++ x ∷ []) (take n' row') (IsPermutation-sym (take n' row') (take n row ++ x ∷ []) put.held)
        (All-push (Made answers states) (take n row) x old.only (record { u = i; low = low; answered = is }));
    each = λ u below. elim (cases_lt u i) [
      | inl less ↦
          let asked = old.each u less in
          (asked.0, asked.1, if_any (λ y. Among y (take n row)) (λ y. Among y (take n' row')) (λ y in_row test h. in_row test (all_but_last (λ z. test z ≡ true) (take n row) x (parts test h))) asked.0 asked.2)
      | inr high ↦ let e : u ≡ i = omega arith in subst (λ (k : ℕ). Asked answers (take n' row') k) (sym e) (Some x, is, λ test h. all_last (λ z. test z ≡ true) (take n row) x (parts test h))
    ];
  }
    where
      parts : (test : R → Bool) → AllByRecursion (λ y. test y ≡ true) (take n' row') → AllByRecursion (λ y. test y ≡ true) (take n row ++ x ∷ [])
      parts test h = all_shuffled (λ y. test y ≡ true) (take n' row') (take n row ++ x ∷ []) put.held h

  -- The same by what a put answers, where the row has room.
  gathered_more : {row row' : List R} {n n' i : ℕ} (x : R) (a : Result (Unit {0}) Refusal) → PutAnswered x row n row' n' a → i < length row → i < states → answers i (Some x) → Gathered answers states row n i → Gathered answers states row' n' (i + 1)
  gathered_more x (Ok v) put room low is old = gathered_put low is put old
  gathered_more x (Err e) full room low is old = absurd (omega (arith, full.1, old.few))

  -- What is taken carries a first rank.
  pub gathered_takes : {state : R → ℕ} {precedes : R → R → Bool} {row row' : List R} {s n n' i : ℕ} → states ≤ i → n ≤ length row → Gathered answers states row n i → Taken state precedes s row n row' n' → FirstRank state precedes answers states s
  gathered_takes {state} {precedes} {row} {row'} {s} {n} {n'} {i} end fits all taken = record {
    at = out.u;
    rank = taken.out;
    low = out.low;
    answered = out.answered;
    carried = taken.told;
    first = λ u low. let asked = all.each u (omega (arith, end)) in (asked.0, asked.1, if_any (λ x. Among x (take n row)) (λ x. precedes taken.out x ≡ true) (λ x in_row. in_row (precedes taken.out) before) asked.0 asked.2);
  }
    where
      out : Made answers states taken.out
      out = all_last (Made answers states) (take n' row') taken.out (all_shuffled (Made answers states) (take n row) (take n' row' ++ taken.out ∷ []) taken.held all.only)

      before : AllByRecursion (λ y. precedes taken.out y ≡ true) (take n row)
      before = All-from_get_or (λ y. precedes taken.out y ≡ true) (take n row) taken.out (λ k low.
          let below : k < n = omega (arith, length-take-le n row fits) in
          subst (λ (y : R). precedes taken.out y ≡ true) (sym (get_or-take n row k taken.out below)) (taken.first k taken.out below))

  -- Where nothing is held, no state had a rank.
  pub gathered_empty : {row : List R} {n i u : ℕ} → n ≡ 0 → Gathered answers states row n i → u < i → answers u None
  gathered_empty {row} {n} {i} {u} e all low = let asked = all.each u low in at asked.0 asked.1 asked.2
    where
      none : AllByRecursion (λ y. ◌≡◌ {A = Bool} false true) (take n row)
      none = subst (λ (k : ℕ). AllByRecursion (λ y. ◌≡◌ {A = Bool} false true) (take k row)) (sym e) tt

      at : (o : Option R) → answers u o → MatchOption o (Unit {0}) (λ x. Among x (take n row)) → answers u None
      at None is h = is
      at (Some x) is h =
          let wrong : ◌≡◌ {A = Bool} false true = h (λ _. false) none in
          let no_way : ◌≡◌ {A = ℕ} 0 1 = cc in
          absurd (omega arith)

-- A queue over a row of so much room, once the states below i have been asked for their ranks.
pub record Gathering {R : Type 0} (answers : ℕ → Option R → Type 0) (states room : ℕ) (queue : Queue R) (i : ℕ) : Type 0 where
  pub keeps : length queue.row.now ≡ room
  pub held : states ≤ room → Gathered answers states queue.row.now queue.len i

module _ {R : Type 0} {answers : ℕ → Option R → Type 0} {states room : ℕ} where
  -- Before the first state.
  pub gathering_none : (queue : Queue R) → length queue.row.now ≡ room → queue.len ≡ 0 → Gathering answers states room queue 0
  gathering_none queue e empty = record { keeps = e; held = λ fits. gathered_none queue.row.now queue.len empty }

  -- A state that has no rank.
  pub gathering_skip : {queue : Queue R} {i : ℕ} → answers i None → Gathering answers states room queue i → Gathering answers states room queue (i + 1)
  gathering_skip none old = record { keeps = old.keeps; held = λ fits. gathered_skip none (old.held fits) }

  -- One that has, and it is put.
  pub gathering_put : {queue queue' : Queue R} {i : ℕ} (x : R) (a : Result (Unit {0}) Refusal) → PutAnswered x queue.row.now queue.len queue'.row.now queue'.len a → i < states → answers i (Some x) → Gathering answers states room queue i → Gathering answers states room queue' (i + 1)
  gathering_put {queue} {queue'} {i} x a put low is old = record {
    keeps = put_length x queue.row.now queue'.row.now queue.len queue'.len a queue'.fits put ∙ old.keeps;
    held = λ fits. gathered_more x a put (omega (arith, old.keeps)) low is (old.held fits);
  }

-- What may be answered of u: a rank that is made for its one number g by which u is wanted, or none where there is no such g.
abbrev pub Ranks : {R : Type 0} → (ℕ → ℕ → Type 0) → (ℕ → ℕ → R) → ℕ → Option R → Type 0
Ranks Wanted made u o = MatchOption o ((g : ℕ) → Wanted u g → ⊥) (λ x. (g : ℕ) × Wanted u g × (x ≡ made u g))

-- The wanted state that a first rank was answered of: no wanted one goes before it.
pub record FirstWanted {R : Type 0} (state : R → ℕ) (precedes : R → R → Bool) (Wanted : ℕ → ℕ → Type 0) (made : ℕ → ℕ → R) (states n : ℕ) : Type 0 where
  pub u : ℕ
  pub g : ℕ
  pub wanted : Wanted u g
  pub is : n ≡ state (made u g)
  pub first : (v k : ℕ) → v < states → Wanted v k → precedes (made u g) (made v k) ≡ true

pub first_wanted : {R : Type 0} {state : R → ℕ} {precedes : R → R → Bool} {answers : ℕ → Option R → Type 0} {Wanted : ℕ → ℕ → Type 0} {made : ℕ → ℕ → R} {states n : ℕ} → ((u : ℕ) (o : Option R) → u < states → answers u o → Ranks Wanted made u o) → ((u a b : ℕ) → Wanted u a → Wanted u b → a ≡ b) → FirstRank state precedes answers states n → FirstWanted state precedes Wanted made states n
first_wanted {R} {state} {precedes} {answers} {Wanted} {made} {states} {n} ranks one found = record {
  u = found.at;
  g = here.0;
  wanted = here.1;
  is = found.carried ∙ ap state here.2;
  first = λ v k low want. let other = found.first v low in at v k want other.0 (ranks v other.0 low other.1) other.2;
}
  where
    here : (g : ℕ) × Wanted found.at g × (found.rank ≡ made found.at g)
    here = ranks found.at (Some found.rank) found.low found.answered

    at : (v k : ℕ) → Wanted v k → (o : Option R) → Ranks Wanted made v o → MatchOption o (Unit {0}) (λ x. precedes found.rank x ≡ true) → precedes (made found.at here.0) (made v k) ≡ true
    at v k want None none h = absurd (none k want)
    at v k want (Some x) (j, other, is) h =
        subst₂ (λ (y z : R). precedes y z ≡ true) here.2 (is ∙ ap (made v) (one v j k other want)) h
