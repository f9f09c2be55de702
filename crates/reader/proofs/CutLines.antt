-- The cuts of one state, read one after another: what is left to read, put behind what was read, is the whole.
use Rattle.std.proofs.Common.{◌≡◌, ℕ, zero, suc, ◌-◌, ◌<◌, ◌≤◌, true, false, List, [], ◌∷◌, ◌++◌, map, length, vec_items, sym, refl, ap, ◌∙◌, arith}
use Rattle.std.proofs.lemmas.List.{append_assoc, append-nil, length-append, map-append}
use Rattle.text.specs.declared.Fault.{Fault}
use Rattle.text.specs.Marks.{next}
use Rattle.text.specs.Forms.{Got, got, fault, and_then, meets, follow}
use Rattle.text.specs.Document.{Cut, closing, a_cut, line_end}
use Rattle.text.specs.Reading.{cut_of, cuts_from}
use Rattle.text.proofs.Forms.{goes}
use Rattle.text.proofs.Cuts.{cuts_by}
use Rattle.reader.specs.declared.marks.Reader.{Reader}
use Rattle.reader.specs.declared.rows.CutRows.{CutRows}
use Rattle.reader.specs.Readings.{Went, Stopped, rest, told}
use Rattle.reader.specs.Rows.{Filled, room, CutsRead}

-- What is read is put behind xs.
abbrev pub onto : {A : Type 0} → List A → List A → ℕ → List ℕ → Got (List A)
onto xs ys q bs = got (xs ++ ys) q bs

pub onto_none : {A : Type 0} (g : Got (List A)) → g ≡ and_then g (onto [])
onto_none (got ys q bs) = refl
onto_none (fault l c p) = refl

pub onto_more : {A : Type 0} (xs : List A) (x : A) (g : Got (List A)) → and_then (and_then g (λ ys q bs. got (x ∷ ys) q bs)) (onto xs) ≡ and_then g (onto (xs ++ x ∷ []))
onto_more xs x (got ys q bs) = ap (λ z. got z q bs) (sym (append_assoc xs (x ∷ []) ys))
onto_more xs x (fault l c p) = refl

module _ (p : ℕ) (bs : List ℕ) where
  cuts_turn : (k : ℕ) → cuts_from k p bs ≡ cuts_by k p bs (meets closing (next bs))
  cuts_turn zero = refl
  cuts_turn (suc k) = refl

  -- A closing bracket ends the line.
  cuts_end : (k : ℕ) → meets closing (next bs) ≡ true → cuts_from k p bs ≡ and_then (follow line_end p bs) (λ ns q rest. got [] q rest)
  cuts_end zero e = cuts_turn zero ∙ ap (cuts_by zero p bs) e
  cuts_end (suc k) e = cuts_turn (suc k) ∙ ap (cuts_by (suc k) p bs) e

  -- Before any other mark a cut is wanted.
  cuts_go : (k : ℕ) → meets closing (next bs) ≡ false → cuts_from (suc k) p bs ≡ and_then (follow a_cut p bs) (λ ns q rest. and_then (cuts_from k q rest) (λ cs q rest. got (cut_of ns ∷ cs) q rest))
  cuts_go k e = cuts_turn (suc k) ∙ ap (cuts_by (suc k) p bs) e

-- What was read so far, and what is left.
pub record Sofar (from mid : Reader) (before rows : CutRows) : Type 0 where
  pub done : List Cut
  pub same : mid.text.now ≡ from.text.now
  pub left : cuts_from (room before) from.at (rest from) ≡ and_then (cuts_from (room rows) mid.at (rest mid)) (onto done)
  pub fills : Filled done before rows

pub sofar_start : (from : Reader) (rows : CutRows) → Sofar from from rows rows
sofar_start from rows =
    record {
      done = [];
      same = refl;
      left = onto_none (cuts_from (room rows) from.at (rest from));
      fills = record { targets = sym (append-nil (vec_items rows.targets)); costs = sym (append-nil (vec_items rows.costs)) };
    }

-- One cut more, with its target t and its cost c.
pub sofar_more :
    {from mid to : Reader} {before rows after : CutRows} (t c : ℕ)
    → Sofar from mid before rows → meets closing (next (rest mid)) ≡ false → length (vec_items rows.targets) < 8192
    → Went a_cut (t ∷ c ∷ []) mid to → vec_items after.targets ≡ vec_items rows.targets ++ t ∷ [] → vec_items after.costs ≡ vec_items rows.costs ++ c ∷ []
    → Sofar from to before after
sofar_more {from} {mid} {to} {before} {rows} {after} t c s goes_on few w ts cs =
    let one : Cut = record { target = t; cost = c } in
    let k : ℕ = room after in
    let more : room rows ≡ suc k = omega (arith, ap length ts, length-append (vec_items rows.targets) (t ∷ [])) in
    let next-left : cuts_from (room rows) mid.at (rest mid) ≡ and_then (cuts_from k to.at (rest to)) (λ ys q bs. got (one ∷ ys) q bs) =
    ap (λ n. cuts_from n mid.at (rest mid)) more
    ∙ cuts_go mid.at (rest mid) k goes_on
    ∙ goes (follow a_cut mid.at (rest mid)) (λ ns q bs. and_then (cuts_from k q bs) (λ ys q bs. got (cut_of ns ∷ ys) q bs)) (t ∷ c ∷ []) to.at (rest to)
    (and_then (cuts_from k to.at (rest to)) (λ ys q bs. got (one ∷ ys) q bs))
    w.tells
    refl
    in
    record {
      done = s.done ++ one ∷ [];
      same = w.same ∙ s.same;
      left = s.left ∙ ap (λ g. and_then g (onto s.done)) next-left ∙ onto_more s.done one (cuts_from k to.at (rest to));
      fills =
          record {
            targets =
                ts ∙ ap (λ z. z ++ t ∷ []) s.fills.targets
                ∙ append_assoc (vec_items before.targets) (map (λ (x : Cut). x.target) s.done) (t ∷ [])
                ∙ ap (λ z. vec_items before.targets ++ z) (sym (map-append (λ (x : Cut). x.target) s.done (one ∷ [])));
            costs =
                cs ∙ ap (λ z. z ++ c ∷ []) s.fills.costs
                ∙ append_assoc (vec_items before.costs) (map (λ (x : Cut). x.cost) s.done) (c ∷ [])
                ∙ ap (λ z. vec_items before.costs ++ z) (sym (map-append (λ (x : Cut). x.cost) s.done (one ∷ [])));
          };
    }

-- A fault in what is left is the fault of the whole.
sofar_fault :
    {from mid : Reader} {before rows : CutRows} (e : Fault)
    → Sofar from mid before rows → cuts_from (room rows) mid.at (rest mid) ≡ told e → cuts_from (room before) from.at (rest from) ≡ told e
sofar_fault e s h = s.left ∙ ap (λ g. and_then g (onto s.done)) h

pub cut_fault :
    {from mid to : Reader} {before rows : CutRows} {e : Fault}
    → Sofar from mid before rows → meets closing (next (rest mid)) ≡ false → length (vec_items rows.targets) < 8192 → Stopped a_cut mid to e
    → cuts_from (room before) from.at (rest from) ≡ told e
cut_fault {from} {mid} {to} {before} {rows} {e} s goes_on few w =
    let k : ℕ = 8191 - length (vec_items rows.targets) in
    let more : room rows ≡ suc k = omega arith in
    sofar_fault e s
    (ap (λ n. cuts_from n mid.at (rest mid)) more ∙ cuts_go mid.at (rest mid) k goes_on
    ∙ ap (λ g. and_then g (λ ns q bs. and_then (cuts_from k q bs) (λ ys q bs. got (cut_of ns ∷ ys) q bs))) w.tells)

pub full_fault :
    {from mid : Reader} {before rows : CutRows} (e : Fault)
    → Sofar from mid before rows → 8192 ≤ length (vec_items rows.targets) → cuts_from 0 mid.at (rest mid) ≡ told e
    → cuts_from (room before) from.at (rest from) ≡ told e
full_fault {from} {mid} {before} {rows} e s full h =
    let none : room rows ≡ 0 = omega arith in
    sofar_fault e s (ap (λ n. cuts_from n mid.at (rest mid)) none ∙ h)

pub end_fault :
    {from mid to : Reader} {before rows : CutRows} {e : Fault}
    → Sofar from mid before rows → meets closing (next (rest mid)) ≡ true → Stopped line_end mid to e → cuts_from (room before) from.at (rest from) ≡ told e
end_fault {from} {mid} {to} {before} {rows} {e} s shut w =
    sofar_fault e s (cuts_end mid.at (rest mid) (room rows) shut ∙ ap (λ g. and_then g (λ ns q bs. got [] q bs)) w.tells)

pub sofar_end :
    {from mid to : Reader} {before rows : CutRows}
    → Sofar from mid before rows → meets closing (next (rest mid)) ≡ true → Went line_end [] mid to → CutsRead from to before rows
sofar_end {from} {mid} {to} {before} {rows} s shut w =
    record {
      cuts = s.done;
      same = w.same ∙ s.same;
      reads =
          s.left
          ∙ ap (λ g. and_then g (onto s.done)) (cuts_end mid.at (rest mid) (room rows) shut ∙ ap (λ g. and_then g (λ ns q bs. got [] q bs)) w.tells)
          ∙ ap (λ z. got z to.at (rest to)) (append-nil s.done);
      fills = s.fills;
    }
