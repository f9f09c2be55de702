-- The blank of a raster keeps the laws of a blank.
use Rattle.std.specs.Prelude.{◌≡◌, ℕ, zero, suc, ◌+◌, ◌-◌, ◌*◌, ◌/◌, ◌%◌, ◌<◌, ◌≤◌, min, Bool, true, false, cond, List, [], ◌∷◌, length, get_or, Some, None, Option, ◌==◌, ◌≢◌, nat_lt, slice_index, slice_index_or, refl}
use Rattle.std.proofs.Common.{sym, ap, ◌∙◌, inl, inr, arith, mul_comm, add-mul, zero-mul, mul-le-mul_right, div-le_self}
use Rattle.std.proofs.Math.Nat.{mod-le, min-le_left, min-le_right}
use Rattle.std.proofs.lemmas.Nat.{mul-le, mul-add-lt, div-mul-add, mod-mul-add, div_below, mod_below}
use Rattle.std.proofs.lemmas.Bool.{cases_lt, cases_Bool, ltb-true, lt-ltb, le-ltb, eqb-false, ne_eqb, cond-true, cond-false}
use Rattle.course.specs.Blanks.{Meaning, Leads, Walk, stay, cut, Lawful}
use Rattle.raster.specs.declared.direction.Direction.{Direction}
use Rattle.raster.specs.declared.direction.Direction.TheVariants.{Up, Right, Down, Left}
use Rattle.raster.specs.Rastered.{cell_at, neighbour, cut_into, four, number, axis_distance, distance, lesser, least_cost, rastered}

-- What a test lets through holds, and is what came out.
passed : {X : Type 0} (b : Bool) (x y : X) → cond b (Some x) None ≡ Some y → (b ≡ true) × (x ≡ y)
passed true x y e = (refl, cc)
passed false x y e = absurd cc

-- The same of a test that stops what it finds.
unstopped : {X : Type 0} (b : Bool) (x y : X) → cond b None (Some x) ≡ Some y → (b ≡ false) × (x ≡ y)
unstopped true x y e = absurd cc
unstopped false x y e = (refl, cc)

-- One step along an axis brings the goal nearer by one at most.
pub axis_distance_falls : (a b goal : ℕ) → a ≤ b + 1 → b ≤ a + 1 → axis_distance a goal ≤ axis_distance b goal + 1
axis_distance_falls a b goal h k = omega arith

-- A byte above 0 lowers a cost to itself at least, and none raises it.
lesser_under : (cost byte : ℕ) → (byte ≢ 0) → lesser cost byte ≤ byte
lesser_under cost byte some = rw (cond-false (byte == 0) cost (min cost byte) (ne_eqb byte 0 some)) (min-le_right cost byte)

lesser_falls : (cost byte : ℕ) → lesser cost byte ≤ cost
lesser_falls cost byte =
    elim (byte == 0) as (λ b. cond b cost (min cost byte) ≤ cost) [ true ↦ omega arith | false ↦ min-le_left cost byte ]

-- No cell that can be entered is cheaper than the least.
pub least_under : (bytes : List ℕ) (k : ℕ) → (slice_index bytes k ≢ 0) → least_cost bytes ≤ slice_index bytes k
least_under [] k some = absurd (some refl)
least_under (b ∷ bs) zero some = lesser_under (least_cost bs) b some
least_under (b ∷ bs) (suc k) some = omega (arith, lesser_falls (least_cost bs) b, least_under bs k some)

pub least_most : (bytes : List ℕ) → least_cost bytes ≤ 255
least_most [] = omega arith
least_most (b ∷ bs) = omega (arith, lesser_falls (least_cost bs) b, least_most bs)

-- A direction at whose place a cut stands.
record Toward (held : Direction → Option (ℕ × ℕ)) (place : ℕ) (p : ℕ × ℕ) : Type 0 where
  direction : Direction
  at : number direction ≡ place
  holds : held direction ≡ Some p

toward : (held : Direction → Option (ℕ × ℕ)) (place : ℕ) (p : ℕ × ℕ) → slice_index_or (four held) place None ≡ Some p → Toward held place p
toward held zero p e = record { direction = Up; at = refl; holds = e }
toward held (suc zero) p e = record { direction = Right; at = refl; holds = e }
toward held (suc (suc zero)) p e = record { direction = Down; at = refl; holds = e }
toward held (suc (suc (suc zero))) p e = record { direction = Left; at = refl; holds = e }
toward held (suc (suc (suc (suc k)))) p e = absurd cc

-- A cell by its line and column, within the raster.
record Lies (width height cell line column : ℕ) : Type 0 where
  line_is : cell / width ≡ line
  column_is : cell % width ≡ column
  inside : cell < width * height

lies : (width height line column cell : ℕ) → line < height → column < width → cell_at width line column ≡ cell → Lies width height cell line column
lies width height line column cell h k e =
    record {
      line_is = ap (λ n. n / width) (sym e) ∙ div-mul-add line width column k;
      column_is = ap (λ n. n % width) (sym e) ∙ mod-mul-add line width column k;
      inside = omega (arith, mul-add-lt line width column height h k, e);
    }

-- One step from cell u to cell v: one of up, right, down and left is 1, and the others are 0. The direction's number tells which.
record Step (width height u v place : ℕ) : Type 0 where
  up : ℕ
  right : ℕ
  down : ℕ
  left : ℕ
  one : up + right + down + left ≡ 1
  numbered : place ≡ right + 2 * down + 3 * left
  lines : v / width + up ≡ u / width + down
  columns : v % width + left ≡ u % width + right
  inside : v < width * height

step : (width height u v : ℕ) (d : Direction) → 1 ≤ width → u < width * height → neighbour width height d u ≡ Some v → Step width height u v (number d)
step width height u v Up wide h e =
    let p = passed (nat_lt 0 (u / width)) (cell_at width (u / width - 1) (u % width)) v e in
    let above : 0 < u / width = ltb-true 0 (u / width) p.0 in
    let low : u / width < height = div_below u width height wide (omega (arith, mul_comm width height)) in
    let l = lies width height (u / width - 1) (u % width) v (omega arith) (mod_below u width wide) p.1 in
    record {
      up = 1;
      right = 0;
      down = 0;
      left = 0;
      one = refl;
      numbered = refl;
      lines = omega arith;
      columns = omega arith;
      inside = l.inside;
    }
step width height u v Right wide h e =
    let p = passed (nat_lt (u % width + 1) width) (cell_at width (u / width) (u % width + 1)) v e in
    let before : u % width + 1 < width = ltb-true (u % width + 1) width p.0 in
    let low : u / width < height = div_below u width height wide (omega (arith, mul_comm width height)) in
    let l = lies width height (u / width) (u % width + 1) v low before p.1 in
    record {
      up = 0;
      right = 1;
      down = 0;
      left = 0;
      one = refl;
      numbered = refl;
      lines = omega arith;
      columns = omega arith;
      inside = l.inside;
    }
step width height u v Down wide h e =
    let p = passed (nat_lt (u / width + 1) height) (cell_at width (u / width + 1) (u % width)) v e in
    let before : u / width + 1 < height = ltb-true (u / width + 1) height p.0 in
    let l = lies width height (u / width + 1) (u % width) v before (mod_below u width wide) p.1 in
    record {
      up = 0;
      right = 0;
      down = 1;
      left = 0;
      one = refl;
      numbered = refl;
      lines = omega arith;
      columns = omega arith;
      inside = l.inside;
    }
step width height u v Left wide h e =
    let p = passed (nat_lt 0 (u % width)) (cell_at width (u / width) (u % width - 1)) v e in
    let after : 0 < u % width = ltb-true 0 (u % width) p.0 in
    let low : u / width < height = div_below u width height wide (omega (arith, mul_comm width height)) in
    let l = lies width height (u / width) (u % width - 1) v low (omega (arith, mod_below u width wide)) p.1 in
    record {
      up = 0;
      right = 0;
      down = 0;
      left = 1;
      one = refl;
      numbered = refl;
      lines = omega arith;
      columns = omega arith;
      inside = l.inside;
    }

-- A cut leads one step on, and costs the byte of the cell that it enters.
record Cut (bytes : List ℕ) (width height u v c place : ℕ) : Type 0 where
  from : u < width * height
  on : Step width height u v place
  cost : get_or bytes v 0 ≡ c
  entered : get_or bytes v 0 ≡ 0 → ⊥

neighbour_cut : (bytes : List ℕ) (o : Option ℕ) (v c : ℕ) → cut_into bytes o ≡ Some (v, c) → (o ≡ Some v) × (slice_index bytes v ≡ c) × (slice_index bytes v ≢ 0)
neighbour_cut bytes None v c e = absurd cc
neighbour_cut bytes (Some n) v c e =
    let p = unstopped (slice_index bytes n == 0) (n, slice_index bytes n) (v, c) e in
    let to : n ≡ v = ap (λ (x : ℕ × ℕ). x.0) p.1 in
    let cost : get_or bytes n 0 ≡ c = ap (λ (x : ℕ × ℕ). x.1) p.1 in
    (ap Some to, ap (λ x. slice_index bytes x) (sym to) ∙ cost, λ none. eqb-false (slice_index bytes n) 0 p.0 (ap (λ x. slice_index bytes x) to ∙ none))

module _ (bytes : List ℕ) (width height start goal : ℕ) (wide : 1 ≤ width) where
  abbrev blank : Meaning
  blank = rastered bytes width height start goal

  cut_of : {u v c : ℕ} (l : Leads blank u v c) → Cut bytes width height u v c l.place
  cut_of {u} {v} {c} l =
      elim (cases_Bool (nat_lt u (width * height))) [
        | inl in-it ↦
            let held : Direction → Option (ℕ × ℕ) = λ d. cut_into bytes (neighbour width height d u) in
            let stands : get_or (four held) l.place None ≡ Some (v, c) = ap (λ x. get_or x l.place None) (sym (cond-true (nat_lt u (width * height)) (four held) [] in-it)) ∙ l.holds in
            let t = toward held l.place (v, c) stands in
            let n = neighbour_cut bytes (neighbour width height t.direction u) v c t.holds in
            let from : u < width * height = ltb-true u (width * height) in-it in
            record {
              from = from;
              on = rw (sym t.at) (step width height u v t.direction wide from n.0);
              cost = n.1;
              entered = n.2;
            }
        | inr out ↦
            let none : ◌≡◌ {A = Option (ℕ × ℕ)} None (Some (v, c)) = ap (λ x. get_or x l.place None) (sym (cond-false (nat_lt u (width * height)) _ [] out)) ∙ l.holds in
            absurd cc
      ]

  estimate_in : (u : ℕ) → u < width * height → blank.estimate u ≡ distance width u goal * least_cost bytes
  estimate_in u h = cond-true (nat_lt u (width * height)) _ 0 (lt-ltb u (width * height) h)

  estimate_out : (u : ℕ) → width * height ≤ u → blank.estimate u ≡ 0
  estimate_out u h = cond-false (nat_lt u (width * height)) _ 0 (le-ltb u (width * height) h)

  -- Over one step the way to the goal shortens by one at most.
  distance_falls : {u v place : ℕ} → Step width height u v place → distance width u goal ≤ distance width v goal + 1
  distance_falls {u} {v} s =
      let one = s.one in
      let line = axis_distance_falls (u / width) (v / width) (goal / width) (omega (arith, s.lines)) (omega (arith, s.lines)) in
      let column = axis_distance_falls (u % width) (v % width) (goal % width) (omega (arith, s.columns)) (omega (arith, s.columns)) in
      elim (cases_lt (s.left + s.right) 1) [
        | inl along ↦
            let same : u % width ≡ v % width = omega (arith, s.columns) in
            omega (arith, line, ap (λ n. axis_distance n (goal % width)) same)
        | inr across ↦
            let same : u / width ≡ v / width = omega (arith, s.lines) in
            omega (arith, column, ap (λ n. axis_distance n (goal / width)) same)
      ]

  -- Each cut costs at least what the estimate falls by.
  cut_pays : {u v c : ℕ} → Leads blank u v c → blank.estimate u ≤ c + blank.estimate v
  cut_pays {u} {v} {c} l =
      let k = cut_of l in
      let least = least_cost bytes in
      let falls : distance width u goal * least_cost bytes ≤ (distance width v goal + 1) * least_cost bytes = mul-le-mul_right least (distance_falls k.on) in
      rw (estimate_in u k.from, estimate_in v k.on.inside)
      (omega (arith, falls, add-mul (distance width v goal) 1 least, add-mul 0 1 least, least_under bytes v k.entered, k.cost))

  goal_estimate : goal < width * height → blank.estimate goal ≡ 0
  goal_estimate h =
      let none : distance width goal goal ≡ 0 = omega arith in
      estimate_in goal h ∙ ap (λ n. n * least_cost bytes) none ∙ zero-mul (least_cost bytes)

  never_over : {u w d : ℕ} {path : List ℕ} → goal < width * height → Walk blank u w path d → w ≡ goal → blank.estimate u ≤ d
  never_over h (stay u) same = omega (arith, ap blank.estimate same, goal_estimate h)
  never_over h (cut l rest) same = omega (arith, cut_pays l, never_over h rest same)

  estimate_most : (u : ℕ) → goal < width * height → width * height ≤ 1024 → blank.estimate u ≤ 1023000
  estimate_most u inside few =
      elim (cases_lt u (width * height)) [
        | inl h ↦
            let near : distance width u goal ≤ 2046 = omega (arith, div-le_self u width, mod-le u width, div-le_self goal width, mod-le goal width) in
            rw (estimate_in u h) (omega (arith, mul-le (distance width u goal) (least_cost bytes) 2046 255 near (least_most bytes)))
        | inr h ↦ omega (arith, estimate_out u h)
      ]

  places_most : (u : ℕ) → length (blank.places u) ≤ 4
  places_most u =
      elim (nat_lt u (width * height)) as (λ b. length (cond b (four (λ d. cut_into bytes (neighbour width height d u))) []) ≤ 4) [
        | true ↦ omega arith
        | false ↦ omega arith
      ]

  pub rastered_lawful : 2 ≤ width * height → width * height ≤ 1024 → start < width * height → goal < width * height → (start ≢ goal) → ((k : ℕ) → slice_index bytes k ≤ 255) → Lawful (rastered bytes width height start goal)
  rastered_lawful enough few begins ends apart small =
      record {
        states_least = enough;
        states_most = few;
        start_in = begins;
        goal_in = ends;
        apart = apart;
        places_most = λ u. omega (arith, places_most u);
        outside = λ u h. ap length (cond-false (nat_lt u (width * height)) _ [] (le-ltb u (width * height) h));
        leads_in = λ l. (cut_of l).on.inside;
        leads_on = λ {u} {v} l same.
            let s = (cut_of l).on in
            omega (arith, s.one, s.lines, s.columns, ap (λ n. n / width) same, ap (λ n. n % width) same);
        cost_least = λ l. let k = cut_of l in omega (arith, k.cost, k.entered);
        cost_most = λ {u} {v} l. omega (arith, (cut_of l).cost, small v);
        once = λ a b.
            let s = (cut_of a).on in
            let t = (cut_of b).on in
            omega (arith, s.one, s.numbered, s.lines, s.columns, t.one, t.numbered, t.lines, t.columns);
        estimate_most = λ u. estimate_most u ends few;
        outside_estimate = estimate_out;
        goal_estimate = goal_estimate ends;
        never_over = λ w. never_over ends w refl;
      }
