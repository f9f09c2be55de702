-- The reading of a text that has as many cuts as it may have stops at the bracket of the next one.
use Rattle.std.proofs.Common.{◌≡◌, ℕ, zero, suc, ◌+◌, ◌-◌, ◌<◌, List, [], ◌∷◌, ◌++◌, length, sym, refl, ap, ◌∙◌, zero-add, arith}
use Rattle.std.specs.List.{AllByRecursion}
use Rattle.std.proofs.lemmas.List.{append_assoc, length-append}
use Rattle.text.specs.Marks.{is_digit}
use Rattle.text.specs.Forms.{filled, Got, got, fault, and_then, follow}
use Rattle.text.specs.Document.{Cut, Short, ShortCut, total, first_line, from, a_cut, cuts_text, lines_text, estimates_line}
use Rattle.text.specs.Reading.{cuts_from, lines_from, orders_from, document}
use Rattle.text.specs.Causes.{bare_cuts, Full}
use Rattle.text.proofs.Runs.{Stops}
use Rattle.text.proofs.Forms.{goes}
use Rattle.text.proofs.Cuts.{cut_read, from_read, line_read}
use Rattle.text.proofs.Documents.{doc, by_count, after_head, allowed_counts, first_line_read}

-- The first fault stands.
stops : {A B : Type 0} (r : Got A) (k : A → ℕ → List ℕ → Got B) (l c p : ℕ) → r ≡ fault l c p → and_then r k ≡ fault l c p
stops r k l c p e = ap (λ x. and_then x k) e

-- A space, and the bracket of one more cut.
abbrev one_more : List ℕ → List ℕ
one_more rest = 32 ∷ 40 ∷ rest

cuts_full :
    (cs : List Cut) (room p q : ℕ) (rest : List ℕ)
    → AllByRecursion ShortCut cs → length cs ≡ room → q ≡ p + length (bare_cuts cs) + 1 → cuts_from room p (bare_cuts cs ++ one_more rest) ≡ fault 2 4 q
cuts_full [] zero p q rest s h e = ap (λ z. fault 2 4 z) (let d : p + 1 + 1 - 1 ≡ q = omega arith in d)
cuts_full [] (suc room) p q rest s h e = absurd (omega arith)
cuts_full (c ∷ cs) zero p q rest s h e = absurd (omega arith)
cuts_full (c ∷ cs) (suc room) p q rest s h e =
    let one = filled a_cut (c.target ∷ c.cost ∷ []) in
    ap (cuts_from (suc room) p) (append_assoc one (bare_cuts cs) (one_more rest))
    ∙ cut_read c room p (bare_cuts cs ++ one_more rest) (fault 2 4 q) s.0
    (stops (cuts_from room (p + length one) (bare_cuts cs ++ one_more rest)) (λ cs q rest. got (c ∷ cs) q rest) 2 4 q
    (cuts_full cs room (p + length one) q rest s.1 (omega arith) (omega (arith, length-append one (bare_cuts cs)))))

bare_stop : (cs : List Cut) (rest : List ℕ) → Stops is_digit (bare_cuts cs ++ one_more rest)
bare_stop [] rest = refl
bare_stop (c ∷ cs) rest = refl

-- The begun line of state v.
abbrev begun_line : ℕ → List Cut → List ℕ → List ℕ
begun_line v cs rest = filled (from v) [] ++ (bare_cuts cs ++ one_more rest)

lines_full :
    (css : List (List Cut)) (k u v room p q : ℕ) (cs : List Cut) (rest : List ℕ)
    → length css < k → v ≡ u + length css → Short v → AllByRecursion (AllByRecursion ShortCut) css → AllByRecursion ShortCut cs → total css + length cs ≡ room
    → q ≡ p + length (lines_text u css) + length (filled (from v) []) + length (bare_cuts cs) + 1
    → lines_from k u room p (lines_text u css ++ begun_line v cs rest) ≡ fault 2 4 q
lines_full [] zero u v room p q cs rest m w n ss s h e = absurd (omega arith)
lines_full (x ∷ css) zero u v room p q cs rest m w n ss s h e = absurd (omega arith)
lines_full [] (suc k) u v room p q cs rest m w n ss s h e =
    let same : v ≡ u = omega arith in
    let mid : ℕ = p + length (filled (from u) []) in
    let far = ap (λ z. length (filled (from z) [])) same in
    ap (λ z. lines_from (suc k) u room p (begun_line z cs rest)) same
    ∙ from_read k u room p (bare_cuts cs ++ one_more rest) (fault 2 4 q) (omega arith) (bare_stop cs rest)
    (stops (cuts_from room mid (bare_cuts cs ++ one_more rest))
    (λ cs q rest. and_then (lines_from k (suc u) (room - length cs) q rest) (λ css q rest. got (cs ∷ css) q rest))
    2
    4
    q
    (cuts_full cs room mid q rest s (omega arith) (omega (arith, far))))
lines_full (x ∷ css) (suc k) u v room p q cs rest m w n ss s h e =
    let line = filled (from u) [] ++ cuts_text x in
    let more = lines_text (suc u) css in
    let after : ℕ = p + length line in
    ap (lines_from (suc k) u room p) (append_assoc line more (begun_line v cs rest))
    ∙ line_read x k u room p after (more ++ begun_line v cs rest) (fault 2 4 q) (omega arith) ss.0 (omega arith) refl
    (stops (lines_from k (suc u) (room - length x) after (more ++ begun_line v cs rest)) (λ css q rest. got (x ∷ css) q rest) 2 4 q
    (lines_full css k (suc u) v (room - length x) after q cs rest (omega arith) (omega arith) n ss.1 s (omega arith)
    (omega (arith, length-append line more))))

pub full_read : (bs rest : List ℕ) → Full bs → document (bs ++ 40 ∷ rest) ≡ fault 2 4 (length bs)
unfolding after_head
full_read bs rest h =
    let n = h.states in
    let t = h.head in
    let ns : List ℕ = n ∷ t.start ∷ t.goal ∷ [] in
    let line = filled first_line ns in
    let ls = lines_text 0 h.whole in
    let v = length h.whole in
    let one = filled (from v) [] in
    let cs = bare_cuts h.begun in
    let tail : t.rest ++ 40 ∷ rest ≡ ls ++ begun_line v h.begun rest =
    ap (λ z. z ++ 40 ∷ rest) h.is ∙ append_assoc ls (one ++ (cs ++ 32 ∷ [])) (40 ∷ rest)
    ∙ ap (λ z. ls ++ z) (append_assoc one (cs ++ 32 ∷ []) (40 ∷ rest) ∙ ap (λ z. one ++ z) (append_assoc cs (32 ∷ []) (40 ∷ rest)))
    in
    let long : length bs ≡ length line + length ls + length one + length cs + 1 =
    omega (
      arith,
      ap length t.is,
      length-append line t.rest,
      ap length h.is,
      length-append ls (one ++ (cs ++ 32 ∷ [])),
      length-append one (cs ++ 32 ∷ []),
      length-append cs (32 ∷ []),
    )
    in
    ap (λ z. document (z ++ 40 ∷ rest)) t.is ∙ ap document (append_assoc line t.rest (40 ∷ rest)) ∙ ap (λ z. document (line ++ z)) tail
    ∙ goes (follow first_line 0 (line ++ (ls ++ begun_line v h.begun rest))) after_head ns (length line) (ls ++ begun_line v h.begun rest)
    (fault 2 4 (length bs))
    (first_line_read n t.start t.goal (ls ++ begun_line v h.begun rest) t.states_short t.start_short t.goal_short)
    (ap (by_count ns (length line) (ls ++ begun_line v h.begun rest)) (allowed_counts n h.allowed)
    ∙ stops (lines_from n 0 8192 (length line) (ls ++ begun_line v h.begun rest))
    (λ css q rest.
    and_then (follow (estimates_line n) q rest)
    (λ hs q rest. and_then (orders_from (length rest) q rest) (λ os q rest. got (doc n t.start t.goal css hs os) q rest)))
    2
    4
    (length bs)
    (lines_full h.whole n 0 v 8192 (length line) (length bs) h.begun rest h.more (sym (zero-add v)) (omega (arith, h.more, h.allowed.1))
    h.whole_short
    h.begun_short
    h.all
    long))
