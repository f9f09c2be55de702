-- A whole text: its first line, and what follows it.
use Rattle.std.proofs.Common.{◌≡◌, ℕ, Bool, true, false, Decides, List, length, drop, Ok, Err, vec_items, Result, Vec, sym, refl, ap, ◌∙◌}
use Rattle.std.specs.declared.alloc.Global.{Global}
use Rattle.std.proofs.lemmas.Bool.Decides.{same_from_decides}
use Rattle.text.specs.Causes.{Allowed}
use Rattle.text.specs.declared.Fault.{Fault}
use Rattle.text.specs.declared.Order.{Order}
use Rattle.text.specs.Forms.{Form, Got, got, fault, and_then, follow}
use Rattle.text.specs.Document as rules
use Rattle.text.specs.Document.{first_line, estimates_line}
use Rattle.text.specs.Reading.{lines_from, orders_from, body, document}
use Rattle.text.proofs.Forms.{goes}
use Rattle.text.proofs.Documents.{after_head, by_count, counts, counts_true, allowed_counts}
use Rattle.reader.specs.declared.errors.ReadError.{ReadError}
use Rattle.reader.specs.declared.errors.ReadError.TheVariants.{AtFault, NoMemory}
use Rattle.reader.specs.declared.marks.Reader.{Reader}
use Rattle.reader.specs.declared.forms.Head.{Head}
use Rattle.reader.specs.declared.rows.Lines.{Lines}
use Rattle.reader.specs.declared.document.Document.{Document}
use Rattle.reader.specs.Readings.{Went, Stopped, headed, rest, told}
use Rattle.reader.specs.Rows.{Outcome, LinesRead}
use Rattle.reader.specs.Orders.{Came, all_orders}
use Rattle.reader.specs.Documents.{BodyRead, DocumentRead}

pub outcome_map :
    {A : Type 0} (P P' : A → Type 0) (Q Q' : Fault → Type 0) → ((a : A) → P a → P' a) → ((f : Fault) → Q f → Q' f) → (r : Result A ReadError) → Outcome P Q r → Outcome P' Q' r
outcome_map P P' Q Q' p q (Ok a) h = p a h
outcome_map P P' Q Q' p q (Err (AtFault f)) h = q f h
outcome_map P P' Q Q' p q (Err (NoMemory a)) h = tt

module _ (h : Head) (from : Reader) where
  -- What follows the lines of the states, and what follows the estimates.
  after_estimates : List (List rules.Cut) → List ℕ → ℕ → List ℕ → Got rules.Document
  after_estimates css hs q left =
      and_then (orders_from (length left) q left)
      (λ os q left. got (record { states = h.states; start = h.start; goal = h.goal; cuts = css; estimates = hs; orders = os }) q left)

  after_lines : List (List rules.Cut) → ℕ → List ℕ → Got rules.Document
  after_lines css q left = and_then (follow (estimates_line h.states) q left) (after_estimates css)

  here : Got rules.Document
  here = body h.states h.start h.goal from.at (rest from)

  here_is : here ≡ and_then (lines_from h.states 0 8192 from.at (rest from)) after_lines
  unfolding after_estimates after_lines here
  here_is = refl

  module _ (mid : Reader) (lines : Lines) (l : LinesRead h.states from mid lines) where
    behind_lines : here ≡ after_lines l.cuts mid.at (rest mid)
    behind_lines = here_is ∙ goes (lines_from h.states 0 8192 from.at (rest from)) after_lines l.cuts mid.at (rest mid) (after_lines l.cuts mid.at (rest mid)) l.reads refl

    module _ (after : Reader) (hs : List ℕ) (w : Went (estimates_line h.states) hs mid after) where
      behind_estimates : here ≡ after_estimates l.cuts hs after.at (rest after)
      unfolding after_lines
      behind_estimates =
          behind_lines
          ∙ goes (follow (estimates_line h.states) mid.at (rest mid)) (after_estimates l.cuts) hs after.at (rest after)
          (after_estimates l.cuts hs after.at (rest after)) w.tells refl

      pub body_done :
          (to : Reader) (os : List Order) → Came (all_orders after) os after to
          → body h.states h.start h.goal from.at (rest from)
          ≡ got (record { states = h.states; start = h.start; goal = h.goal; cuts = l.cuts; estimates = hs; orders = os }) to.at (rest to)
      unfolding after_estimates here
      body_done to os c =
          behind_estimates
          ∙ ap (λ g. and_then g (λ os q left. got (record { states = h.states; start = h.start; goal = h.goal; cuts = l.cuts; estimates = hs; orders = os }) q left)) c.is

pub body_read :
    (h : Head) (from mid after to : Reader) (lines : Lines) (hs : Vec ℕ Global) (os : Vec Order Global)
    → LinesRead h.states from mid lines → Went (estimates_line h.states) (vec_items hs) mid after → Came (all_orders after) (vec_items os) after to
    → BodyRead h from to (record { firsts = lines.firsts; targets = lines.cuts.targets; costs = lines.cuts.costs; estimates = hs; start = h.start; goal = h.goal; orders = os })
body_read h from mid after to lines hs os l w c =
    record {
      is = record { states = h.states; start = h.start; goal = h.goal; cuts = l.cuts; estimates = vec_items hs; orders = vec_items os };
      reads = body_done h from mid lines l after (vec_items hs) w to (vec_items os) c;
      held =
          record {
            rows =
                λ i. record {
                  firsts = l.firsts i;
                  targets = l.targets i;
                  costs = l.costs i;
                  estimates = vec_items hs;
                  start = h.start;
                  goal = h.goal;
                };
            orders = refl;
          };
    }

-- A reader at the beginning of a text has all of it before it.
begins_at : (text : List ℕ) (from : Reader) → (from.text.now ≡ text) × (from.at ≡ 0) → (f : Form) → follow f 0 text ≡ follow f from.at (rest from)
begins_at text from s f = ap (λ xs. follow f 0 xs) (sym s.0) ∙ ap (λ p. follow f p (drop p from.text.now)) (sym s.1)

module _ (text : List ℕ) (from mid : Reader) (s : (from.text.now ≡ text) × (from.at ≡ 0)) where
  document_is : document text ≡ and_then (follow first_line 0 text) after_head
  unfolding after_head
  document_is = refl

  pub head_stop : (e : Fault) → Stopped first_line from mid e → document text ≡ told e
  head_stop e w = document_is ∙ ap (λ r. and_then r after_head) (begins_at text from s first_line ∙ w.tells)

  module _ (h : Head) (w : Went first_line (headed h) from mid) where
    -- The reading goes on exactly where the number of states is allowed.
    counted_by : (t : Bool) → Decides t (Allowed h.states) → document text ≡ by_count (headed h) mid.at (rest mid) t
    unfolding after_head
    counted_by t d =
        document_is
        ∙ goes (follow first_line 0 text) after_head (headed h) mid.at (rest mid) (by_count (headed h) mid.at (rest mid) t)
        (begins_at text from s first_line ∙ w.tells)
        (ap (by_count (headed h) mid.at (rest mid)) (same_from_decides (counts h.states) t (counts_true h.states, allowed_counts h.states) d))

    pub miscounted : (t : Bool) → Decides t (Allowed h.states) → t ≡ false → document text ≡ fault 3 5 0
    miscounted t d e = counted_by t d ∙ ap (by_count (headed h) mid.at (rest mid)) e

    pub well_counted : (t : Bool) → Decides t (Allowed h.states) → t ≡ true → document text ≡ body h.states h.start h.goal mid.at (rest mid)
    well_counted t d e = counted_by t d ∙ ap (by_count (headed h) mid.at (rest mid)) e

    pub document_read : (to : Reader) (d : Document) → document text ≡ body h.states h.start h.goal mid.at (rest mid) → BodyRead h mid to d → DocumentRead text d
    document_read to d e b = record { is = b.is; place = to.at; left = rest to; reads = e ∙ b.reads; held = b.held }
