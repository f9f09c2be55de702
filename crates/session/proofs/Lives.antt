-- A life goes on by one call more.
use Rattle.std.proofs.Common.{◌≡◌, ℕ, ◌+◌, ◌<◌, List, [], ◌∷◌, ◌++◌, map, length, get_or, take, drop, IfOk, Ok, Err, vec_items, Result, Vec, sym, refl, ap, ◌∙◌, subst, ap₂, subst₂, arith, take-append-drop}
use Rattle.std.specs.declared.alloc.Global.{Global}
use Rattle.std.specs.declared.alloc.AllocError.{AllocError}
use Rattle.std.proofs.lemmas.List.{take_more, map-append, length-map, length-take-le}
use Rattle.text.specs.declared.Order.{Order}
use Rattle.course.specs.Blanks.{Meaning, Lawful}
use Rattle.course.specs.Machine as Machine
use Rattle.course.specs.Machine.{State}
use Rattle.std.specs.List.{AllByRecursion}
use Rattle.course.specs.declared.machine.Word.{Word}
use Rattle.course.specs.Calls.{Call, Answer, worked, Does, Life, then}
use Rattle.session.specs.declared.reply.Reply.{Reply}
use Rattle.course.proofs.Answers.{answers_true}
use Rattle.planner.specs.Lives.{AfterLives}
use Rattle.session.specs.Replies.{call_of, answer_of, written, all_written, NoWork}
use Rattle.session.specs.Lived.{newest_first, Lived}

-- The last call of a list, and its answer, are the newest.
pub newest_more : (cs : List Call) (xs : List Answer) (c : Call) (a : Answer) (before : List (Call × Answer)) → length xs ≡ length cs → newest_first (cs ++ c ∷ []) (xs ++ a ∷ []) before ≡ (c, a) ∷ newest_first cs xs before
newest_more [] [] c a before e = refl
newest_more [] (x ∷ xs) c a before e = absurd (omega arith)
newest_more (y ∷ cs) [] c a before e = absurd (omega arith)
newest_more (y ∷ cs) (x ∷ xs) c a before e = newest_more cs xs c a ((y, x) ∷ before) (omega arith)

-- One order more was performed: the i-th of them.
pub lives_more :
    {m : Meaning} {ord : Machine.Order} {y z : State} (cs : List (Call × Answer)) (call : Order → Call) (orders : List Order) (i : ℕ) (d : Order) (replies more : List Reply) (x : Reply)
    → i < length orders → length replies ≡ i → more ≡ replies ++ x ∷ []
    → Life m ord (newest_first (map call (take i orders)) (map answer_of replies) cs) y
    → Does m ord y (call (get_or orders i d)) (answer_of x) z
    → Life m ord (newest_first (map call (take (i + 1) orders)) (map answer_of more) cs) z
lives_more {m} {ord} {y} {z} cs call orders i d replies more x low long is life does =
    let o = get_or orders i d in
    let calls : map call (take (i + 1) orders) ≡ map call (take i orders) ++ call o ∷ [] = ap (map call) (take_more orders i d low) ∙ map-append call (take i orders) (o ∷ []) in
    let answers : map answer_of more ≡ map answer_of replies ++ answer_of x ∷ [] = ap (map answer_of) is ∙ map-append answer_of replies (x ∷ []) in
    let same : length (map answer_of replies) ≡ length (map call (take i orders)) = omega (arith, length-map replies answer_of, length-map (take i orders) call, length-take-le i orders (omega arith)) in
    let whole : newest_first (map call (take (i + 1) orders)) (map answer_of more) cs ≡ (call o, answer_of x) ∷ newest_first (map call (take i orders)) (map answer_of replies) cs
    = ap₂ (λ k l. newest_first k l cs) calls answers ∙ newest_more (map call (take i orders)) (map answer_of replies) (call o) (answer_of x) cs same in
    subst (λ (l : List (Call × Answer)). Life m ord l z) (sym whole) (then life does)

-- What performing an order did, told of the blank, the wish and the rows that are known to be the same.
pub does_at :
    {m n : Meaning} {a b : Machine.Order} {i j k c w r : ℕ} {y z : State} (o : Order) (x : Reply)
    → m ≡ n → a ≡ b → i ≡ c → j ≡ w → k ≡ r
    → AfterLives m a y (λ cs. Does m a y (call_of i j k o) (answer_of x) z) → AfterLives n b y (λ cs. Does n b y (call_of c w r o) (answer_of x) z)
does_at {m} {n} {a} {b} {i} {j} {k} {c} {w} {r} {y} {z} o x same-blank same-wish costs wishes row does =
    let P : Meaning → Machine.Order → Type 0 = λ p q. AfterLives p q y (λ cs. Does p q y (call_of i j k o) (answer_of x) z) in
    let Q : ℕ → ℕ → Type 0 = λ p q. AfterLives n b y (λ cs. Does n b y (call_of p q k o) (answer_of x) z) in
    let R : ℕ → Type 0 = λ p. AfterLives n b y (λ cs. Does n b y (call_of c w p o) (answer_of x) z) in
    subst R row (subst₂ Q costs wishes (subst₂ P same-blank same-wish does))

-- Performed from clamping on, with every answer: the whole life.
pub lived : {m : Meaning} {ord : Machine.Order} {z : State} {calls : List Call} {answers : List Answer} → Lawful m → length answers ≡ length calls → Life m ord (newest_first calls answers []) z → Lived m ord calls answers
lived {m} {ord} {z} {calls} {answers} law every life = record { every = every; left = z; life = life; truly = answers_true m ord law (newest_first calls answers []) z life }

-- The same by what performing each order answered, from a life with no calls yet.
pub lived_by :
    {m n : Meaning} {a b : Machine.Order} {s : State} (z : State) (call : Order → Call) (orders : List Order) (r : Result (Vec Reply Global) AllocError)
    → Lawful n → m ≡ n → a ≡ b → Life n b [] s
    → IfOk r (λ v. length (vec_items v) ≡ length orders)
    → IfOk r (λ v. AfterLives m a s (λ cs. Life m a (newest_first (map call orders) (map answer_of (vec_items v)) cs) z))
    → IfOk r (λ v. Lived n b (map call orders) (map answer_of (vec_items v)))
lived_by {m} {n} {a} {b} {s} z call orders (Ok v) law same-blank same-wish begun every lives =
    let P : Meaning → Machine.Order → Type 0 = λ p q. AfterLives p q s (λ cs. Life p q (newest_first (map call orders) (map answer_of (vec_items v)) cs) z) in
    lived law (omega (arith, every, length-map (vec_items v) answer_of, length-map orders call)) ((subst₂ P same-blank same-wish lives).every [] begun)
lived_by z call orders (Err e) law same-blank same-wish begun every lives = tt

-- THE ROWS

-- A row whose front is the states that were told, and whose rest is as it was.
pub written_front : (row after states : List ℕ) (len : ℕ) → take len after ≡ states → length states ≡ len → drop len after ≡ drop len row → after ≡ states ++ drop (length states) row
written_front row after states len front long rest =
    sym (take-append-drop len after) ∙ ap₂ (λ k l. k ++ l) front (rest ∙ ap (λ n. drop n row) (sym long))

-- One answer more.
written_push : (answers : List Answer) (a : Answer) (row : List ℕ) → all_written (answers ++ a ∷ []) row ≡ written a (all_written answers row)
written_push [] a row = refl
written_push (x ∷ answers) a row = written_push answers a (written x row)

pub written_more : (replies more : List Reply) (x : Reply) (row before after : List ℕ) → more ≡ replies ++ x ∷ [] → before ≡ all_written (map answer_of replies) row → after ≡ written (answer_of x) before → after ≡ all_written (map answer_of more) row
written_more replies more x row before after is was e =
    e ∙ ap (written (answer_of x)) was
    ∙ sym (ap (λ l. all_written l row) (ap (map answer_of) is ∙ map-append answer_of replies (x ∷ [])) ∙ written_push (map answer_of replies) (answer_of x) row)

-- Where no work was accepted, none was before the last either.
all_push : (P : Answer → Type 0) (answers : List Answer) (a : Answer) → AllByRecursion P (answers ++ a ∷ []) → AllByRecursion P answers × P a
all_push P [] a h = (tt, h.0)
all_push P (x ∷ answers) a h = let rest = all_push P answers a h.1 in ((h.0, rest.0), rest.1)

pub no_work_more : (replies more : List Reply) (x : Reply) → more ≡ replies ++ x ∷ [] → AllByRecursion NoWork (map answer_of more) → AllByRecursion NoWork (map answer_of replies) × NoWork (answer_of x)
no_work_more replies more x is none =
    all_push NoWork (map answer_of replies) (answer_of x) (subst (λ (l : List Answer). AllByRecursion NoWork l) (ap (map answer_of) is ∙ map-append answer_of replies (x ∷ [])) none)

-- The answer of a work is that of a work.
pub was_work : {A : Type 0} {word : Word} {moves : ℕ} → NoWork (worked word moves) → A
was_work {A} {word} {moves} none = absurd (none word moves refl)
