-- What the checks of a table answer.
use Rattle.std.specs.Prelude.{◌≡◌, ℕ, ◌+◌, ◌<◌, ◌≤◌, Bool, true, false, Some, None, Ok, Err, Option, Result, slice_index}
use Rattle.course.specs.declared.refusal.Refusal.{Refusal}
use Rattle.course.specs.Refusals.{number_of}
use Rattle.table.specs.declared.flaw.Flaw.{Flaw}
use Rattle.table.specs.declared.table.TableRows.{TableRows}
use Rattle.table.specs.Table.{Rows, states, Holds, Passes, Worst}

-- What the rows hold that a table lends.
abbrev pub rows_in : TableRows → Rows
rows_in t =
    record {
      firsts = t.firsts.now;
      targets = t.targets.now;
      costs = t.costs.now;
      estimates = t.estimates.now;
      start = t.start;
      goal = t.goal;
    }

-- The whole check: nothing is wrong, or this flaw is the worst.
abbrev pub Checked : Rows → Result (Unit {0}) Flaw → Type 0
Checked r (Ok _) = Passes r
Checked r (Err f) = Worst r (number_of f.cause) f.place

-- A step of the check: the rows go on, as a value that `held` tells the rows of, or this flaw is their worst.
abbrev pub Stepped : {T : Type 0} → Rows → (T → Rows) → Result T Flaw → Type 0
Stepped r held (Ok t) = held t ≡ r
Stepped r held (Err f) = Worst r (number_of f.cause) f.place

-- What is told of a cause: nothing where it has no bad place, and else the flaw there.
abbrev pub told : Refusal → Option ℕ → Result (Unit {0}) Flaw
told cause None = Ok tt
told cause (Some place) = Err (record { cause = cause; place = place })

-- No state's entries begin before those of the state before it.
abbrev pub Rising : Rows → Type 0
Rising r = (u : ℕ) → u < states r → slice_index r.firsts u ≤ slice_index r.firsts (u + 1)

-- A look for bad places: there is none, or this one is bad and no bad one lies before it.
abbrev pub First : (ℕ → Type 0) → Option ℕ → Type 0
First bad None = (e : ℕ) → bad e → ⊥
First bad (Some e) = bad e × ((k : ℕ) → bad k → e ≤ k)

-- Entry e is a cut of state u that is not good, where `good` says which cuts of which states are.
pub record Lapse (r : Rows) (good : ℕ → ℕ → Type 0) (u e : ℕ) : Type 0 where
  pub held : Holds r u e
  pub fails : good u e → ⊥

-- What a search for the first entry, of all states, that fails a test finds, where `answers` says what the test may answer of a state and its
-- entry: every entry passes, or this one fails and each before it passes.
pub data FirstFailing (r : Rows) (answers : ℕ → ℕ → Bool → Type 0) : Option ℕ → Type 0 where
  none : ((u e : ℕ) → Holds r u e → answers u e true) → FirstFailing r answers None
  some : (u e : ℕ) → Holds r u e → answers u e false → ((v k : ℕ) → Holds r v k → k < e → answers v k true) → FirstFailing r answers (Some e)
