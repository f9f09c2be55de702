-- The rows that the reader fills.
use Rattle.std.specs.Prelude.{◌≡◌, ℕ, ◌-◌, List, [], ◌∷◌, ◌++◌, map, length, Ok, Err, vec_items, Result, Vec}
use Rattle.text.specs.declared.Fault.{Fault}
use Rattle.text.specs.Forms.{Got, got, and_then, follow}
use Rattle.text.specs.Document.{Cut, from, estimates_line}
use Rattle.text.specs.Reading.{cuts_from, lines_from}
use Rattle.text.specs.Rows.{firsts_after, targets_of, costs_of}
use Rattle.reader.specs.Readings.{Went, rest, told}
use Rattle.reader.specs.declared.errors.ReadError.{ReadError}
use Rattle.reader.specs.declared.errors.ReadError.TheVariants.{AtFault, NoMemory}
use Rattle.reader.specs.declared.forms.Cut as code
use Rattle.reader.specs.declared.marks.Reader.{Reader}
use Rattle.reader.specs.declared.rows.CutRows.{CutRows}
use Rattle.reader.specs.declared.rows.Lines.{Lines}
use Rattle.std.specs.declared.alloc.Global.{Global}

-- What is promised of an answer, and of a fault; nothing is promised where memory failed.
abbrev pub Outcome : {A : Type 0} → (A → Type 0) → (Fault → Type 0) → Result A ReadError → Type 0
Outcome P Q (Ok a) = P a
Outcome P Q (Err (AtFault f)) = Q f
Outcome P Q (Err (NoMemory e)) = Unit {0}

-- One cut more.
abbrev pub Pushed : code.Cut → CutRows → CutRows → Result (Unit {0}) ReadError → Type 0
Pushed c before after r =
    Outcome
    (λ _. (vec_items after.targets ≡ vec_items before.targets ++ c.target ∷ []) × (vec_items after.costs ≡ vec_items before.costs ++ c.cost ∷ []))
    (λ _. ⊥)
    r

-- The entries of one state more begin behind those that are there.
abbrev pub Begins : Lines → Lines → Result (Unit {0}) ReadError → Type 0
Begins before after r =
    Outcome
    (λ _. (vec_items after.firsts ≡ vec_items before.firsts ++ length (vec_items before.cuts.targets) ∷ []) × (after.cuts ≡ before.cuts))
    (λ _. ⊥)
    r

-- The cuts cs stand behind those that were there before.
pub record Filled (cs : List Cut) (before after : CutRows) : Type 0 where
  pub targets : vec_items after.targets ≡ vec_items before.targets ++ map (λ (c : Cut). c.target) cs
  pub costs : vec_items after.costs ≡ vec_items before.costs ++ map (λ (c : Cut). c.cost) cs

-- How many more cuts may stand.
abbrev pub room : CutRows → ℕ
room rows = 8192 - length (vec_items rows.targets)

-- The cuts of one state with the end of their line were read, and stand in the rows.
pub record CutsRead (from to : Reader) (before after : CutRows) : Type 0 where
  pub cuts : List Cut
  pub same : to.text.now ≡ from.text.now
  pub reads : cuts_from (room before) from.at (rest from) ≡ got cuts to.at (rest to)
  pub fills : Filled cuts before after

abbrev pub CutsTold : Reader → Reader → CutRows → CutRows → Result (Unit {0}) ReadError → Type 0
CutsTold from to before after r = Outcome (λ _. CutsRead from to before after) (λ f. cuts_from (room before) from.at (rest from) ≡ told f) r

-- The line of state u: where its entries begin, and its cuts.
abbrev pub line_from : ℕ → ℕ → ℕ → List ℕ → Got (List Cut)
line_from u k p bs = and_then (follow (from u) p bs) (λ ns q left. cuts_from k q left)

pub record LineRead (u : ℕ) (start to : Reader) (before after : Lines) : Type 0 where
  pub cuts : List Cut
  pub same : to.text.now ≡ start.text.now
  pub reads : line_from u (room before.cuts) start.at (rest start) ≡ got cuts to.at (rest to)
  pub begins : vec_items after.firsts ≡ vec_items before.firsts ++ length (vec_items before.cuts.targets) ∷ []
  pub fills : Filled cuts before.cuts after.cuts

abbrev pub LineTold : ℕ → Reader → Reader → Lines → Lines → Result (Unit {0}) ReadError → Type 0
LineTold u start to before after r =
    Outcome (λ _. LineRead u start to before after) (λ f. line_from u (room before.cuts) start.at (rest start) ≡ told f) r

-- The lines of n states were read, and their cuts stand in rows.
pub record LinesRead (n : ℕ) (start to : Reader) (lines : Lines) : Type 0 where
  pub cuts : List (List Cut)
  pub same : to.text.now ≡ start.text.now
  pub reads : lines_from n 0 8192 start.at (rest start) ≡ got cuts to.at (rest to)
  pub firsts : vec_items lines.firsts ≡ firsts_after 0 cuts
  pub targets : vec_items lines.cuts.targets ≡ targets_of cuts
  pub costs : vec_items lines.cuts.costs ≡ costs_of cuts

abbrev pub LinesTold : ℕ → Reader → Reader → Result Lines ReadError → Type 0
LinesTold n start to r = Outcome (LinesRead n start to) (λ f. lines_from n 0 8192 start.at (rest start) ≡ told f) r

abbrev pub EstimatesTold : ℕ → Reader → Reader → Result (Vec ℕ Global) ReadError → Type 0
EstimatesTold n start to r =
    Outcome (λ hs. Went (estimates_line n) (vec_items hs) start to) (λ f. follow (estimates_line n) start.at (rest start) ≡ told f) r
