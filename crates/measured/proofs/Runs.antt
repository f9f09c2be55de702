-- A work that is computed is the one that the rules make, and the only one.
use Rattle.std.proofs.Common.{◌≡◌, ℕ, zero, suc, ◌*◌, ◌≤◌, true, false, not, ◌&&◌, leb, List, [], ◌∷◌, length, Option, sym, refl, ap, ◌∙◌, subst, ap₂, arith}
use Rattle.std.proofs.lemmas.Bool.{leb-true, le-leb, and_parts, and_from, not-true, both_ways}
use Rattle.course.specs.declared.machine.Word.{Word}
use Rattle.course.specs.declared.machine.Word.TheVariants.{Done as done}
use Rattle.course.specs.Blanks.{Meaning, Lawful}
use Rattle.course.specs.Machine.{Standing, State, limit, with_ceiling, fresh, Order, LawfulRanks, Chosen, Move}
use Rattle.course.specs.Calls.{Call, work, ceiling, Answer, worked, set, Finished, Met, Works, is_done, is_met, is_spent, goes_on, Does, works, lowers, Life, clamped, then}
use Rattle.course.proofs.Moves.{Kept}
use Rattle.course.proofs.Floor.{Held, fresh_kept, moved_held}
use Rattle.course.proofs.Outcomes.{one_least, one_choice, one_raised, one_move}
use Rattle.course.proofs.Answered.{one_does}
use Rattle.course.proofs.Lives.{life_held}
use Rattle.measured.specs.Moved.{moved, Enough, ComesTo, Measured}
use Rattle.measured.proofs.Computed.{raise, move_at, after, chosen, finished, met, makes}
use Rattle.measured.proofs.Follows.{raises, moves}

-- THE WORK THAT IS COMPUTED

-- Where the search is not finished by the test, it is not.
unfinished : (s : State) → finished s ≡ false → Finished s → ⊥
unfinished s h f = both_ways (finished s) h (le-leb (limit s) s.floor f)

-- Where the ratio is not met by the test, it is not.
unmet : (s : State) → met s s.standing ≡ false → Met s → ⊥
unmet s h x =
    let r = x.route in
    let in_reach = and_from (leb r.cost s.ceiling) (leb (r.cost * s.q) (s.p * s.floor)) (le-leb r.cost s.ceiling x.within) (le-leb (r.cost * s.q) (s.p * s.floor) x.near) in
    both_ways (met s s.standing) h (ap (met s) x.stands ∙ in_reach)

-- A work that makes these moves, and ends as it is computed.
record Made (m : Meaning) (ord : Order) (b : ℕ) (s z : State) (ns : List ℕ) : Type 0 where
  works : Works m ord b s done (length ns) z
  moves : moved works ≡ ns

module _ {m : Meaning} {ord : Order} (law : Lawful m) (ranks : LawfulRanks ord) where
  -- The moves that a work makes by the tests are made at every budget that suffices.
  made : (ns : List ℕ) {s : State} → Held m s → makes m ns s ≡ true → (b : ℕ) → length ns ≤ b → Made m ord b s (after m ns s) ns
  made [] {s} held h b few = record { works = is_done (leb-true (limit s) s.floor h); moves = refl }
  made (n ∷ ns) held h zero few = absurd (omega arith)
  made (n ∷ ns) {s} held h (suc b) few =
      let next = move_at m n s (s.mark n) in
      let parts = and_parts (not (finished s) && not (met s s.standing)) (chosen m n s (s.mark n) && makes m ns next) h in
      let looks = and_parts (not (finished s)) (not (met s s.standing)) parts.0 in
      let turns = and_parts (chosen m n s (s.mark n)) (makes m ns next) parts.1 in
      let move = moves law ranks held n turns.0 in
      let rest = made ns (moved_held law held move.0) turns.1 b (omega arith) in
      record {
        works = goes_on (unfinished s (not-true (finished s) looks.0)) (unmet s (not-true (met s s.standing) looks.1)) move.0 rest.works;
        moves = ap₂ ◌∷◌ move.1 rest.moves;
      }

  -- ONLY ONE

  -- Two moves at one state are of one state, and leave one.
  same_move : {s t y z : State} → s ≡ t → (a : Move m ord s y) (b : Move m ord t z) → (a.n ≡ b.n) × (y ≡ z)
  same_move {s} {t} {y} {z} e a b = subst (λ (u : State). (x : Move m ord u z) → (a.n ≡ x.n) × (y ≡ z)) e (λ x. (same_state x, one_move law ranks a x)) b
    where
      same_state : (x : Move m ord s z) → a.n ≡ x.n
      same_state x = one_choice ranks a.chosen (subst (λ (f : ℕ). Chosen m ord s f x.n x.g) (one_least x.least a.least) x.chosen)

  -- Two works at one state move the same states.
  same_moved : {b k l : ℕ} {w x : Word} {s t y z : State} → s ≡ t → (i : Works m ord b s w k y) (j : Works m ord b t x l z) → moved i ≡ moved j
  same_moved e (is_done f) (is_done h) = refl
  same_moved e (is_done f) (is_met h n) = refl
  same_moved e (is_done f) (is_spent h n) = refl
  same_moved e (is_done f) (goes_on h n move rest) = absurd (h (subst Finished e f))
  same_moved e (is_met f n) (is_done h) = refl
  same_moved e (is_met f n) (is_met h o) = refl
  same_moved e (is_met f n) (is_spent h o) = refl
  same_moved e (is_met f n) (goes_on h o move rest) = absurd (o (subst Met e n))
  same_moved e (is_spent f n) (is_done h) = refl
  same_moved e (is_spent f n) (is_met h o) = refl
  same_moved e (is_spent f n) (is_spent h o) = refl
  same_moved e (goes_on f n move rest) (is_done h) = absurd (f (subst Finished (sym e) h))
  same_moved e (goes_on f n move rest) (is_met h o) = absurd (n (subst Met (sym e) o))
  same_moved e (goes_on f n move rest) (goes_on h o move' rest') =
      let same = same_move e move move' in
      ap₂ ◌∷◌ same.0 (same_moved same.1 rest rest')

  -- The same calls with the same answers lead to one state.
  one_life : {cs : List (Call × Answer)} {y z : State} → Life m ord cs y → Life m ord cs z → y ≡ z
  one_life (clamped a) (clamped b) = one_raised a b
  one_life (then {c = c} {a = a} life does) (then {z = z} life' does') =
      (one_does law ranks does (subst (λ (s : State). Does m ord s c a z) (sym (one_life life life')) does')).1

  -- WHAT COMES

  -- A work that is computed comes at the state that it is computed for.
  comes_to :
      (ns : List ℕ) (s : State) {standing : Option Standing} {floor : ℕ} → Held m s → makes m ns s ≡ true → (after m ns s).standing ≡ standing
      → (after m ns s).floor ≡ floor → ComesTo m ord s ns standing floor
  comes_to ns s {standing} {floor} held h stands stops = record {
    answers = λ b c w enough. (after m ns s, call enough);
    only = λ b c w enough a z does.
        let same = one_does law ranks does (call enough) in
        (same.0, ap (λ (x : State). x.standing) same.1 ∙ stands, ap (λ (x : State). x.floor) same.1 ∙ stops);
    moves = λ {b} few x. let y = made ns held h b few in same_moved refl x y.works ∙ y.moves;
  }
    where
      call : {b c w : ℕ} → Enough m (length ns) b c w → Does m ord s (work b c w) (worked done (length ns)) (after m ns s)
      call {b} enough = works enough.costs enough.wishes enough.allowed (made ns held h b enough.moves).works

-- So it comes after every life of the calls before it.
pub measured :
    {m : Meaning} {before : List (Call × Answer)} (ns : List ℕ) (s : State) {standing : Option Standing} {floor : ℕ} → Lawful m
    → ((ord : Order) → Life m ord before s) → makes m ns s ≡ true → (after m ns s).standing ≡ standing → (after m ns s).floor ≡ floor
    → Measured m before ns standing floor
measured {m} ns s {standing} {floor} law life h stands stops = record {
  lawful = law;
  begins = λ ord ranks. (s, life ord);
  comes = λ ord ranks z other.
      subst (λ (x : State). ComesTo m ord x ns standing floor) (one_life law ranks (life ord) other)
      (comes_to law ranks ns s (life_held law (life ord)) h stands stops);
}

-- THE CALLS BEFORE

-- Clamping, computed.
pub begun : {m : Meaning} → Lawful m → (ord : Order) → Life m ord [] (raise m (fresh m))
begun {m} law ord = clamped (raises m (fresh m) law (fresh_kept law))

-- And a ceiling after it.
pub lowered :
    {m : Meaning} → Lawful m → (c : ℕ) → c ≤ (raise m (fresh m)).ceiling → (ord : Order)
    → Life m ord ((ceiling c, set) ∷ []) (raise m (with_ceiling (raise m (fresh m)) c))
lowered {m} law c low ord = then (begun law ord) (lowers low (raises m _ law kept))
  where
    kept : Kept m (with_ceiling (raise m (fresh m)) c)
    kept =
        let k = (life_held law (begun law ord)).kept in
        record { marks = k.marks; stands_route = k.stands_route; stands_short = k.stands_short; floor_under = k.floor_under }
