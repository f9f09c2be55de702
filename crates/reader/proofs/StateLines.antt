-- The lines of the states, read one after another.
use Rattle.std.proofs.Common.{◌≡◌, ℕ, suc, ◌+◌, ◌-◌, ◌<◌, ◌≤◌, List, [], ◌∷◌, ◌++◌, map, length, vec_items, sym, refl, ap, ◌∙◌, add-zero, zero-add, add-one, arith}
use Rattle.std.proofs.lemmas.List.{append-nil, length-append, length-map, flat_map_more}
use Rattle.text.specs.declared.Fault.{Fault}
use Rattle.text.specs.Forms.{Got, got, fault, and_then, follow}
use Rattle.text.specs.Document.{Cut, total, from}
use Rattle.text.specs.Reading.{cuts_from, lines_from}
use Rattle.text.specs.Rows.{firsts_after, targets_of, costs_of}
use Rattle.text.proofs.Forms.{goes}
use Rattle.text.proofs.Shapes.{row_many}
use Rattle.reader.specs.declared.marks.Reader.{Reader}
use Rattle.reader.specs.declared.rows.CutRows.{CutRows}
use Rattle.reader.specs.declared.rows.Lines.{Lines}
use Rattle.reader.specs.Readings.{rest, told}
use Rattle.reader.specs.Rows.{room, line_from, LineRead, LinesRead}
use Rattle.reader.proofs.CutLines.{onto, onto_none, onto_more}

-- Where the entries of each state begin, but not where the last end.
abbrev pub begins : ℕ → List (List Cut) → List ℕ
begins e [] = []
begins e (cs ∷ css) = e ∷ begins (e + length cs) css

begins_more : (e : ℕ) (css : List (List Cut)) (cs : List Cut) → begins e (css ++ cs ∷ []) ≡ begins e css ++ (e + total css) ∷ []
begins_more e [] cs = ap (λ n. n ∷ []) (sym (add-zero e))
begins_more e (ds ∷ css) cs =
    let same : e + length ds + total css ≡ e + (length ds + total css) = omega arith in
    ap (λ z. e ∷ z) (begins_more (e + length ds) css cs ∙ ap (λ n. begins (e + length ds) css ++ n ∷ []) same)

firsts_begin : (e : ℕ) (css : List (List Cut)) → firsts_after e css ≡ begins e css ++ (e + total css) ∷ []
firsts_begin e [] = ap (λ n. n ∷ []) (sym (add-zero e))
firsts_begin e (cs ∷ css) =
    let same : e + length cs + total css ≡ e + (length cs + total css) = omega arith in
    ap (λ z. e ∷ z) (firsts_begin (e + length cs) css ∙ ap (λ n. begins (e + length cs) css ++ n ∷ []) same)

-- So many entries stand before the next state.
entries : (xs : List ℕ) (css : List (List Cut)) → xs ≡ targets_of css → length xs ≡ 0 + total css
entries xs css e = ap length e ∙ row_many (λ (c : Cut). c.target) css ∙ sym (zero-add (total css))

-- The lines of one state more are its own line and those behind it.
lines_step :
    (k u n p : ℕ) (bs : List ℕ)
    → lines_from (suc k) u n p bs ≡ and_then (line_from u n p bs) (λ cs q left. and_then (lines_from k (suc u) (n - length cs) q left) (λ css q left. got (cs ∷ css) q left))
lines_step k u n p bs = go (follow (from u) p bs)
  where
    more : List Cut → ℕ → List ℕ → Got (List (List Cut))
    more cs q left = and_then (lines_from k (suc u) (n - length cs) q left) (λ css q left. got (cs ∷ css) q left)

    go : (r : Got (List ℕ)) → and_then r (λ ns q left. and_then (cuts_from n q left) more) ≡ and_then (and_then r (λ ns q left. cuts_from n q left)) more
    go (got ns q left) = refl
    go (fault l c q) = refl

-- The states before u are read.
pub record SofarLines (n u : ℕ) (start mid : Reader) (lines : Lines) : Type 0 where
  pub done : List (List Cut)
  pub same : mid.text.now ≡ start.text.now
  pub left : lines_from n 0 8192 start.at (rest start) ≡ and_then (lines_from (n - u) u (room lines.cuts) mid.at (rest mid)) (onto done)
  pub firsts_are : vec_items lines.firsts ≡ begins 0 done
  pub targets_are : vec_items lines.cuts.targets ≡ targets_of done
  pub costs_are : vec_items lines.cuts.costs ≡ costs_of done

pub lines_start :
    (n : ℕ) (start : Reader) (lines : Lines)
    → (vec_items lines.firsts ≡ []) × (vec_items lines.cuts.targets ≡ []) × (vec_items lines.cuts.costs ≡ []) → SofarLines n 0 start start lines
lines_start n start lines r =
    let whole : n ≡ n - 0 = omega arith in
    let all : 8192 ≡ room lines.cuts = omega (arith, ap length r.1) in
    record {
      done = [];
      same = refl;
      left =
          onto_none (lines_from n 0 8192 start.at (rest start))
          ∙ ap (λ k. and_then (lines_from k 0 8192 start.at (rest start)) (onto [])) whole
          ∙ ap (λ k. and_then (lines_from (n - 0) 0 k start.at (rest start)) (onto [])) all;
      firsts_are = r.0;
      targets_are = r.1;
      costs_are = r.2;
    }

pub lines_more :
    {n u : ℕ} {start mid to : Reader} {before after : Lines}
    → SofarLines n u start mid before → u < n → LineRead u mid to before after → SofarLines n (u + 1) start to after
lines_more {n} {u} {start} {mid} {to} {before} {after} s h r =
    let k : ℕ = n - (u + 1) in
    let cs = r.cuts in
    let one_less : n - u ≡ suc k = omega arith in
    let long : length (vec_items after.cuts.targets) ≡ length (vec_items before.cuts.targets) + length cs =
    ap length r.fills.targets
    ∙ length-append (vec_items before.cuts.targets) (map (λ (c : Cut). c.target) cs)
    ∙ ap (λ z. length (vec_items before.cuts.targets) + z) (length-map cs (λ (c : Cut). c.target))
    in
    let room-left : room before.cuts - length cs ≡ room after.cuts = omega (arith, long) in
    let onward = λ (css : List (List Cut)) (q : ℕ) (bs : List ℕ). got (cs ∷ css) q bs in
    let step : lines_from (n - u) u (room before.cuts) mid.at (rest mid) ≡ and_then (lines_from k (u + 1) (room after.cuts) to.at (rest to)) onward =
    ap (λ z. lines_from z u (room before.cuts) mid.at (rest mid)) one_less ∙ lines_step k u (room before.cuts) mid.at (rest mid)
    ∙ goes (line_from u (room before.cuts) mid.at (rest mid))
    (λ cs q left. and_then (lines_from k (suc u) (room before.cuts - length cs) q left) (λ css q left. got (cs ∷ css) q left))
    cs
    to.at
    (rest to)
    (and_then (lines_from k (u + 1) (room after.cuts) to.at (rest to)) onward)
    r.reads
    (ap (λ z. and_then (lines_from k (suc u) z to.at (rest to)) onward) room-left
    ∙ ap (λ z. and_then (lines_from k z (room after.cuts) to.at (rest to)) onward) (sym (add-one u)))
    in
    record {
      done = s.done ++ cs ∷ [];
      same = r.same ∙ s.same;
      left = s.left ∙ ap (λ g. and_then g (onto s.done)) step ∙ onto_more s.done cs (lines_from k (u + 1) (room after.cuts) to.at (rest to));
      firsts_are =
          r.begins ∙ ap (λ z. z ++ length (vec_items before.cuts.targets) ∷ []) s.firsts_are
          ∙ ap (λ z. begins 0 s.done ++ z ∷ []) (entries (vec_items before.cuts.targets) s.done s.targets_are)
          ∙ sym (begins_more 0 s.done cs);
      targets_are = r.fills.targets ∙ ap (λ z. z ++ map (λ (c : Cut). c.target) cs) s.targets_are ∙ flat_map_more (map (λ (c : Cut). c.target)) [] s.done cs;
      costs_are = r.fills.costs ∙ ap (λ z. z ++ map (λ (c : Cut). c.cost) cs) s.costs_are ∙ flat_map_more (map (λ (c : Cut). c.cost)) [] s.done cs;
    }

pub lines_fault :
    {n u : ℕ} {start mid : Reader} {lines : Lines} (e : Fault)
    → SofarLines n u start mid lines → u < n → line_from u (room lines.cuts) mid.at (rest mid) ≡ told e → lines_from n 0 8192 start.at (rest start) ≡ told e
lines_fault {n} {u} {start} {mid} {lines} e s h f =
    let k : ℕ = n - (u + 1) in
    let one_less : n - u ≡ suc k = omega arith in
    s.left
    ∙ ap (λ g. and_then g (onto s.done))
    (ap (λ z. lines_from z u (room lines.cuts) mid.at (rest mid)) one_less ∙ lines_step k u (room lines.cuts) mid.at (rest mid)
    ∙ ap (λ g. and_then g (λ cs q left. and_then (lines_from k (suc u) (room lines.cuts - length cs) q left) (λ css q left. got (cs ∷ css) q left))) f)

pub lines_end :
    {n u : ℕ} {start to : Reader} {before lines : Lines}
    → SofarLines n u start to before → n ≤ u → vec_items lines.firsts ≡ vec_items before.firsts ++ length (vec_items before.cuts.targets) ∷ []
    → lines.cuts ≡ before.cuts → LinesRead n start to lines
lines_end {n} {u} {start} {to} {before} {lines} s h m r =
    let none : n - u ≡ 0 = omega arith in
    record {
      cuts = s.done;
      same = s.same;
      reads =
          s.left ∙ ap (λ z. and_then (lines_from z u (room before.cuts) to.at (rest to)) (onto s.done)) none
          ∙ ap (λ z. got z to.at (rest to)) (append-nil s.done);
      firsts =
          m ∙ ap (λ z. z ++ length (vec_items before.cuts.targets) ∷ []) s.firsts_are
          ∙ ap (λ z. begins 0 s.done ++ z ∷ []) (entries (vec_items before.cuts.targets) s.done s.targets_are)
          ∙ sym (firsts_begin 0 s.done);
      targets = ap (λ (x : CutRows). vec_items x.targets) r ∙ s.targets_are;
      costs = ap (λ (x : CutRows). vec_items x.costs) r ∙ s.costs_are;
    }
