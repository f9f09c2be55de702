-- A text is accepted with a document exactly where it is the document's text.
use Rattle.std.proofs.Common.{◌≡◌, ℕ, ◌+◌, ◌<◌, ◌≤◌, Bool, true, false, ◌&&◌, leb, List, [], ◌∷◌, ◌++◌, length, get_or, sym, refl, ap, ◌∙◌, subst, le_refl, zero-add, arith}
use Rattle.std.proofs.lemmas.List.{length-append, append-nil}
use Rattle.std.proofs.lemmas.Bool.{and_parts, and_from, leb-true, leb-false, le-leb, lt-leb}
use Rattle.text.specs.Forms.{filled, Got, got, fault, and_then, follow}
use Rattle.text.specs.Document.{Cut, Document, Short, WellFormed, written, first_line, estimates_line, lines_text, orders_text}
use Rattle.text.specs.declared.Order.{Order}
use Rattle.text.specs.Reading.{lines_from, orders_from, body, document, parsed}
use Rattle.table.specs.Table.{Worst}
use Rattle.text.specs.Rows.{table_rows}
use Rattle.text.specs.Verdicts.{accepted, refused, Concludes, Says}
use Rattle.text.specs.Causes.{Allowed}
use Rattle.text.specs.Promises.{Writes, AcceptedIsWritten}
use Rattle.text.proofs.Forms.{went, goes, no_got, Fits, follow_sound, Spaced}
use Rattle.text.proofs.Cuts.{follow_to, lines_sound, lines_complete}
use Rattle.text.proofs.Orders.{spaced_fits, fits_spaced, spaced_stops, spaced_spaced, orders_sound, orders_complete}

abbrev pub doc : ℕ → ℕ → ℕ → List (List Cut) → List ℕ → List Order → Document
doc n s g css hs os = record { states = n; start = s; goal = g; cuts = css; estimates = hs; orders = os }

-- What the body of a text was read from.
record BodyRead (n s g p : ℕ) (bs : List ℕ) (d : Document) : Type 0 where
  states : d.states ≡ n
  start : d.start ≡ s
  goal : d.goal ≡ g
  is : bs ≡ lines_text 0 d.cuts ++ (filled (estimates_line n) d.estimates ++ orders_text d.orders)
  well : 2 ≤ n → n ≤ 1024 → Short s → Short g → WellFormed d

body_sound : (n s g p : ℕ) (bs : List ℕ) (d : Document) (q : ℕ) (rest : List ℕ) → body n s g p bs ≡ got d q rest → BodyRead n s g p bs d
body_sound n s g p bs d q rest e =
    let w =
    went (lines_from n 0 8192 p bs)
    (λ css q rest.
    and_then (follow (estimates_line n) q rest)
    (λ hs q rest.
    and_then (orders_from (length rest) q rest)
    (λ os q rest. got (doc n s g css hs os) q rest)))
    d
    q
    rest
    e
    in
    let v =
    went (follow (estimates_line n) w.place w.left)
    (λ hs q rest.
    and_then (orders_from (length rest) q rest)
    (λ os q rest. got (doc n s g w.thing hs os) q rest))
    d
    q
    rest
    w.second
    in
    let x =
    went (orders_from (length v.left) v.place v.left)
    (λ os q rest. got (doc n s g w.thing v.thing os) q rest)
    d
    q
    rest
    v.second
    in
    let l = lines_sound n 0 8192 p bs w.thing w.place w.left w.first in
    let f = follow_sound (estimates_line n) w.place w.left v.thing v.place v.left v.first in
    let h = spaced_fits n v.thing f.fits in
    let o = orders_sound (length v.left) v.place v.left x.thing x.place x.left (le_refl (length v.left)) x.first in
    let made : Document = record { states = n; start = s; goal = g; cuts = w.thing; estimates = v.thing; orders = x.thing } in
    let all : made ≡ d = cc x.second in
    let P : Document → Type 0 = λ d. BodyRead n s g p bs d in
    let tail : v.left ≡ orders_text x.thing = o.took.splits ∙ ap (λ z. orders_text x.thing ++ z) o.done ∙ append-nil (orders_text x.thing) in
    subst P all
    (record {
      states = refl;
      start = refl;
      goal = refl;
      is =
          l.took.splits
          ∙ ap (λ z. lines_text 0 w.thing ++ z) (f.took.splits ∙ ap (λ z. filled (estimates_line n) v.thing ++ z) tail);
      well =
          λ two most ss gs.
          record {
            enough = two;
            few = most;
            start_short = ss;
            goal_short = gs;
            lines = l.all;
            cuts_few = l.few;
            cuts_short = l.short;
            estimates_all = h.0;
            estimates_short = h.1;
            orders_short = o.short;
          };
    })

pub record Three (ns : List ℕ) : Type 0 where
  pub states_short : Short (get_or ns 0 0)
  pub start_short : Short (get_or ns 1 0)
  pub goal_short : Short (get_or ns 2 0)
  pub is : ns ≡ get_or ns 0 0 ∷ get_or ns 1 0 ∷ get_or ns 2 0 ∷ []

pub three : (ns : List ℕ) → Fits first_line ns → Three ns
three [] h = elim h [ ]
three (a ∷ []) h = elim h.1 [ ]
three (a ∷ b ∷ []) h = elim h.1.1 [ ]
three (a ∷ b ∷ c ∷ []) h = record { states_short = h.0; start_short = h.1.0; goal_short = h.1.1.0; is = refl }
three (a ∷ b ∷ c ∷ x ∷ ns) h = let e = h.1.1.1 in let z : ◌≡◌ {A = ℕ} 0 1 = cc in absurd (omega arith)

-- What a text was read from.
pub record Parsed (text : List ℕ) (d : Document) : Type 0 where
  pub is : text ≡ written d
  pub well : WellFormed d

abbrev pub counts : ℕ → Bool
counts n = leb 2 n && leb n 1024

pub counts_true : (n : ℕ) → counts n ≡ true → Allowed n
counts_true n e = let h = and_parts (leb 2 n) (leb n 1024) e in (leb-true 2 n h.0, leb-true n 1024 h.1)

pub allowed_counts : (n : ℕ) → Allowed n → counts n ≡ true
allowed_counts n h = and_from (leb 2 n) (leb n 1024) (le-leb 2 n h.0) (le-leb n 1024 h.1)

pub counts_false : (n : ℕ) → counts n ≡ false → Allowed n → ⊥
counts_false n e h = let t = allowed_counts n h in let z : ◌≡◌ {A = ℕ} 0 1 = cc in omega arith

-- What is made of the bytes behind a first line that was read to say ns, by whether the number of states is allowed.
abbrev pub by_count : List ℕ → ℕ → List ℕ → Bool → Got Document
by_count ns q rest b = elim b [ true ↦ body (get_or ns 0 0) (get_or ns 1 0) (get_or ns 2 0) q rest | false ↦ fault 3 5 0 ]

unfoldable pub after_head : List ℕ → ℕ → List ℕ → Got Document
after_head ns q rest = by_count ns q rest (counts (get_or ns 0 0))

pub document_sound : (text : List ℕ) (d : Document) (q : ℕ) (rest : List ℕ) → document text ≡ got d q rest → Parsed text d
unfolding after_head
document_sound text d q rest e =
    let w = went (follow first_line 0 text) after_head d q rest e in
    let f = follow_sound first_line 0 text w.thing w.place w.left w.first in
    go w.thing w.place w.left (counts (get_or w.thing 0 0)) refl (three w.thing f.fits) f.took.splits w.second
  where
    go :
        (ns : List ℕ) (p : ℕ) (bs : List ℕ) (t : Bool)
        → counts (get_or ns 0 0) ≡ t → Three ns → text ≡ filled first_line ns ++ bs → by_count ns p bs t ≡ got d q rest → Parsed text d
    go ns p bs true t h s e =
        let n = get_or ns 0 0 in
        let range = counts_true n t in
        let b = body_sound n (get_or ns 1 0) (get_or ns 2 0) p bs d q rest e in
        let line : filled first_line ns ≡ filled first_line (d.states ∷ d.start ∷ d.goal ∷ []) =
        ap (filled first_line)
        (h.is ∙ ap (λ z. z ∷ get_or ns 1 0 ∷ get_or ns 2 0 ∷ []) (sym b.states) ∙ ap (λ z. d.states ∷ z ∷ get_or ns 2 0 ∷ []) (sym b.start)
        ∙ ap (λ z. d.states ∷ d.start ∷ z ∷ []) (sym b.goal))
        in
        record {
          is =
              s ∙ ap (λ z. z ++ bs) line
              ∙ ap (λ z. filled first_line (d.states ∷ d.start ∷ d.goal ∷ []) ++ z)
              (b.is ∙ ap (λ z. lines_text 0 d.cuts ++ (filled (estimates_line z) d.estimates ++ orders_text d.orders)) (sym b.states));
          well = b.well range.0 range.1 h.start_short h.goal_short;
        }
    go ns p bs false t h s e = no_got d q rest 3 5 0 (sym e)

body_complete : (d : Document) (p q : ℕ) → WellFormed d → q ≡ p + length (lines_text 0 d.cuts ++ (filled (estimates_line d.states) d.estimates ++ orders_text d.orders)) → body d.states d.start d.goal p (lines_text 0 d.cuts ++ (filled (estimates_line d.states) d.estimates ++ orders_text d.orders)) ≡ got d q []
body_complete d p q h e =
    let n = d.states in
    let ls = lines_text 0 d.cuts in
    let es = filled (estimates_line n) d.estimates in
    let os = orders_text d.orders in
    let some : length d.cuts + 0 ≤ 1024 = omega (arith, h.lines, h.few) in
    let many = lines_complete d.cuts 0 8192 p (p + length ls) (es ++ os) some h.cuts_few h.cuts_short refl in
    goes (lines_from n 0 8192 p (ls ++ (es ++ os)))
    (λ css q rest.
    and_then (follow (estimates_line n) q rest)
    (λ hs q rest.
    and_then (orders_from (length rest) q rest)
    (λ os q rest. got (doc n d.start d.goal css hs os) q rest)))
    d.cuts
    (p + length ls)
    (es ++ os)
    (got d q [])
    (ap (λ z. lines_from z 0 8192 p (ls ++ (es ++ os))) (sym h.lines) ∙ many)
    (goes (follow (estimates_line n) (p + length ls) (es ++ os))
    (λ hs q rest.
    and_then (orders_from (length rest) q rest)
    (λ os q rest. got (doc n d.start d.goal d.cuts hs os) q rest))
    d.estimates
    (p + length ls + length es)
    os
    (got d q [])
    (follow_to (estimates_line n) d.estimates (p + length ls) (p + length ls + length es) (es ++ os) os
    (subst (λ z. Fits (estimates_line z) d.estimates) h.estimates_all (fits_spaced d.estimates h.estimates_short)) (
      refl,
      (
        omega arith,
        (refl, (refl, (refl, (refl, (refl, (refl, (refl, (refl, (refl, tt))))))))),
        (λ ns. (spaced_stops n ns os).1),
        spaced_spaced n os,
      ),
    )
    refl
    refl)
    (goes (orders_from (length os) (p + length ls + length es) os)
    (λ os q rest. got (doc n d.start d.goal d.cuts d.estimates os) q rest)
    d.orders
    q
    []
    (got d q [])
    (orders_complete d.orders (length os) (p + length ls + length es) q h.orders_short (le_refl (length os))
    (omega (arith, e, length-append ls (es ++ os), length-append es os)))
    refl))

first_line_spaced : (rest : List ℕ) → Spaced first_line rest
first_line_spaced rest = (refl, (omega arith, (refl, (refl, (refl, (refl, tt)))), (λ _. refl), (refl, ((λ _. refl), (refl, (refl, (omega arith, (refl, (refl, (refl, (refl, (refl, tt))))), (λ _. refl), (refl, ((λ _. refl), (refl, (refl, (refl, (omega arith, (refl, (refl, (refl, (refl, tt)))), (λ _. refl), (refl, ((λ _. refl), (refl, (refl, (refl, tt))))))))))))))))))

-- A first line is read, whatever follows it.
pub first_line_read :
    (n s g : ℕ) (rest : List ℕ)
    → Short n → Short s → Short g
    → follow first_line 0 (filled first_line (n ∷ s ∷ g ∷ []) ++ rest) ≡ got (n ∷ s ∷ g ∷ []) (length (filled first_line (n ∷ s ∷ g ∷ []))) rest
first_line_read n s g rest ns ss gs =
    let line = filled first_line (n ∷ s ∷ g ∷ []) in
    follow_to first_line (n ∷ s ∷ g ∷ []) 0 (length line) (line ++ rest) rest (ns, (ss, (gs, refl))) (first_line_spaced rest) refl (sym (zero-add (length line)))

pub document_complete : (d : Document) → WellFormed d → document (written d) ≡ got d (length (written d)) []
unfolding after_head
document_complete d h =
    let ns : List ℕ = d.states ∷ d.start ∷ d.goal ∷ [] in
    let one = filled first_line ns in
    let more = lines_text 0 d.cuts ++ (filled (estimates_line d.states) d.estimates ++ orders_text d.orders) in
    let long = length-append one more in
    let short : Short d.states = omega (arith, h.few) in
    goes (follow first_line 0 (one ++ more)) after_head ns (length one) more (got d (length (one ++ more)) [])
    (first_line_read d.states d.start d.goal more short h.start_short h.goal_short)
    (ap (by_count ns (length one) more) (allowed_counts d.states (h.enough, h.few))
    ∙ body_complete d (length one) (length (one ++ more)) h long)

parsed_by : List ℕ → Bool → Got Document
parsed_by text b = elim b [ true ↦ document text | false ↦ fault 2 4 60000 ]

pub parsed_short : (text : List ℕ) → length text ≤ 60000 → parsed text ≡ document text
unfolding parsed_by
parsed_short text h = ap (parsed_by text) (le-leb (length text) 60000 h)

pub parsed_long : (text : List ℕ) → 60000 < length text → parsed text ≡ fault 2 4 60000
unfolding parsed_by
parsed_long text h = ap (parsed_by text) (lt-leb (length text) 60000 h)

-- The three ways to a refusal: the text is too long, its reading stopped, or the table of what was read has something wrong.
pub data Refusal (text : List ℕ) (l c p : ℕ) : Type 0 where
  long : 60000 < length text → l ≡ 2 → c ≡ 4 → p ≡ 60000 → Refusal text l c p
  stopped : length text ≤ 60000 → document text ≡ fault l c p → Refusal text l c p
  checked : (d : Document) → Parsed text d → l ≡ 3 → Worst (table_rows d) c p → Refusal text l c p

pub refusal : (text : List ℕ) (l c p : ℕ) → Says text (refused l c p) → Refusal text l c p
unfolding parsed_by
refusal text l c p says = over (leb (length text) 60000) refl says
  where
    inner : length text ≤ 60000 → (g : Got Document) → document text ≡ g → Concludes g (refused l c p) → Refusal text l c p
    inner h (got d q bs) e s = checked d (document_sound text d q bs e) s.0 s.1
    inner h (fault i j k) e s =
        let a : i ≡ l = cc in
        let b : j ≡ c = cc in
        let m : k ≡ p = cc in
        stopped h (e ∙ ap (λ z. fault z j k) a ∙ ap (λ z. fault l z k) b ∙ ap (λ z. fault l c z) m)

    over : (b : Bool) → leb (length text) 60000 ≡ b → Concludes (parsed_by text b) (refused l c p) → Refusal text l c p
    over true t s = inner (leb-true (length text) 60000 t) (document text) refl s
    over false t s = long (leb-false (length text) 60000 t) (cc) (cc) (cc)

pub record Fitting (text : List ℕ) (d : Document) : Type 0 where
  pub is : Parsed text d
  pub fits : length text ≤ 60000

pub parsed_sound : (text : List ℕ) (d : Document) (q : ℕ) (rest : List ℕ) → parsed text ≡ got d q rest → Fitting text d
parsed_sound text d q rest e = go (leb (length text) 60000) refl e
  where
    go : (t : Bool) → leb (length text) 60000 ≡ t → elim t [ true ↦ document text | false ↦ fault 2 4 60000 ] ≡ got d q rest → Fitting text d
    go true t e = record { is = document_sound text d q rest e; fits = leb-true (length text) 60000 t }
    go false t e = no_got d q rest 2 4 60000 (sym e)

pub parsed_complete : (d : Document) → WellFormed d → length (written d) ≤ 60000 → parsed (written d) ≡ got d (length (written d)) []
parsed_complete d h fits = parsed_short (written d) fits ∙ document_complete d h

pub accepted_is_written : AcceptedIsWritten
accepted_is_written text d = (λ h. from (parsed text) refl h, λ w. to w)
  where
    from : (g : Got Document) → parsed text ≡ g → Concludes g (accepted d) → Writes text d
    from (got x p bs) e h =
        let f = parsed_sound text x p bs e in
        let P : Document → Type 0 = λ x. Writes text x in
        subst P (sym h.0) (record { is = f.is.is; fits = f.fits; well = f.is.well; passes = h.1 })
    from (fault l c p) e h = let z : ◌≡◌ {A = ℕ} 0 1 = cc in absurd (omega arith)

    to : Writes text d → Says text (accepted d)
    to w =
        let P : Got Document → Type 0 = λ g. Concludes g (accepted d) in
        let short : length (written d) ≤ 60000 = omega (arith, w.fits, ap length w.is) in
        subst P (sym (ap parsed w.is ∙ parsed_complete d w.well short)) (refl, w.passes)
