-- A text is refused for its number of states exactly where its first line says one that is not allowed.
use Rattle.std.proofs.Common.{◌≡◌, ℕ, ◌≤◌, Bool, true, false, List, [], ◌∷◌, ◌++◌, length, sym, refl, ap, ◌∙◌, subst, arith}
use Rattle.table.proofs.Causes.{bad_five}
use Rattle.text.specs.Forms.{filled, Got, fault, follow}
use Rattle.text.specs.Document.{Document, first_line}
use Rattle.text.specs.Reading.{document}
use Rattle.text.specs.Rows.{table_rows}
use Rattle.text.specs.Verdicts.{refused, Concludes, Says}
use Rattle.text.specs.Causes.{Miscounted}
use Rattle.text.specs.Promises.{BadCountIsTold}
use Rattle.text.proofs.Forms.{goes}
use Rattle.text.proofs.Documents.{counts, counts_true, by_count, after_head, first_line_read, parsed_short, Refusal, long, stopped, checked, refusal}
use Rattle.text.proofs.Begun.{why_layer, at_beginning, at_count, document_stopped}
use Rattle.text.proofs.Shapes.{read_shape}

miscounted_read : (text : List ℕ) → Miscounted text → document text ≡ fault 3 5 0
unfolding after_head
miscounted_read text h =
    let t = h.head in
    let ns : List ℕ = h.states ∷ t.start ∷ t.goal ∷ [] in
    let line = filled first_line ns in
    ap document t.is
    ∙ goes (follow first_line 0 (line ++ t.rest)) after_head ns (length line) t.rest (fault 3 5 0)
    (first_line_read h.states t.start t.goal t.rest t.states_short t.start_short t.goal_short)
    (ap (by_count ns (length line) t.rest) (none (counts h.states) refl))
  where
    none : (b : Bool) → counts h.states ≡ b → b ≡ false
    none true e = absurd (h.not_allowed (counts_true h.states e))
    none false e = refl

pub bad_count_is_told : BadCountIsTold
bad_count_is_told text place = ((λ says. to (refusal text 3 5 place says)), from)
  where
    to : Refusal text 3 5 place → (place ≡ 0) × (length text ≤ 60000) × Miscounted text
    to (long h a b m) = absurd (omega arith)
    to (checked d h a w) = absurd ((bad_five (table_rows d) place w.is).1 (read_shape d h.well))
    to (stopped h e) =
        elim (document_stopped text 3 5 place e) [
          | at_count a b m ↦ (b, h, m)
          | at_beginning v ↦ absurd (omega (arith, why_layer v.why))
        ]

    from : (place ≡ 0) × (length text ≤ 60000) × Miscounted text → Says text (refused 3 5 place)
    from h =
        let P : Got Document → Type 0 = λ g. Concludes g (refused 3 5 place) in
        subst P (sym (parsed_short text h.1 ∙ miscounted_read text h.2)) (ap (λ z. refused 3 5 z) h.0)
