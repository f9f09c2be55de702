-- What a work's word means after every life, it means outright: some life there is, and each part of the meaning is decided or has one proof.
use Rattle.std.proofs.Common.{◌≡◌, ℕ, ◌*◌, ◌<◌, ◌≤◌, ◌⊎◌, List, Some, None, Option, sym, refl, ap, ◌∙◌, subst, inl, inr, arith}
use Rattle.std.proofs.Math.Logic.{∥∥₁_elim}
use Rattle.std.proofs.lemmas.Bool.{cases_lt, cases_eq}
use Rattle.std.proofs.lemmas.Option.{same_Some, none-some}
use Rattle.course.specs.declared.machine.Word.{Word}
use Rattle.course.specs.declared.machine.Word.TheVariants.{Done as done, Met as met, Spent as spent}
use Rattle.course.specs.Blanks.{Meaning, Route}
use Rattle.course.specs.Machine.{State, Standing, Order}
use Rattle.course.specs.Calls.{Call, Answer, Life}
use Rattle.course.specs.Promises.{FloorReached, Meant}
use Rattle.planner.specs.Lives.{HasLife}

-- There is nothing of an empty type.
none_of : (x y : ⊥) → x ≡ y
none_of x y = absurd x

not_spent_done : ◌≡◌ {A = Word} spent done → ⊥
not_spent_done e = cc

not_spent_met : ◌≡◌ {A = Word} spent met → ⊥
not_spent_met e = cc

module _ {m : Meaning} {ord : Order} {s : State} (lived : HasLife m ord s) where
  -- What is impossible after every life is impossible.
  never : ((cs : List (Call × Answer)) → Life m ord cs s → ⊥) → ⊥
  never wrong = ∥∥₁_elim lived none_of (λ l. wrong l.0 l.1)

  -- What is decided and holds after every life holds.
  decided : {Q : Type 0} → Q ⊎ (Q → ⊥) → ((cs : List (Call × Answer)) → Life m ord cs s → Q) → Q
  decided (inl so) after = so
  decided (inr not_so) after = absurd (never (λ cs life. not_so (after cs life)))

  no_more : (a b : ℕ) → (a ≤ b) ⊎ (a ≤ b → ⊥)
  no_more a b = elim (cases_lt b a) [ inl over ↦ inr (λ h. omega arith) | inr low ↦ inl low ]

  fewer : (a b : ℕ) → (a < b) ⊎ (a < b → ⊥)
  fewer a b = elim (cases_lt a b) [ inl low ↦ inl low | inr over ↦ inr (λ h. omega arith) ]

  the_word : (w v : Word) → (w ≡ v) ⊎ (w ≡ v → ⊥)
  the_word done done = inl refl
  the_word done met = inr (λ e. cc)
  the_word done spent = inr (λ e. cc)
  the_word met done = inr (λ e. cc)
  the_word met met = inl refl
  the_word met spent = inr (λ e. cc)
  the_word spent done = inr (λ e. cc)
  the_word spent met = inr (λ e. cc)
  the_word spent spent = inl refl

  module _ {budget count : ℕ} {word : Word} {z : State} (after : (cs : List (Call × Answer)) → Life m ord cs s → Meant m budget word count z) where
    -- Whether the floor has come up, by what stands.
    reached : (o : Option Standing) → z.standing ≡ o → FloorReached z ⊎ (FloorReached z → ⊥)
    reached None e = elim (cases_lt z.ceiling z.floor) [ inl past ↦ inl (inr past) | inr under ↦ inr (λ up. elim up [ inl t ↦ none-some t.0 (sym e ∙ t.1) | inr past ↦ omega arith ]) ]
    reached (Some r) e = elim (cases_lt z.floor r.cost) [ inr low ↦ inl (inl (r, e, low)) | inl over ↦ elim (cases_lt z.ceiling z.floor) [ inl past ↦ inl (inr past) | inr under ↦ inr (λ up. elim up [ inl t ↦ (let same : t.0 ≡ r = same_Some t.0 r (sym t.1 ∙ e) in omega (arith, t.2, ap (λ (x : Standing). x.cost) same)) | inr past ↦ omega arith ]) ] ]

    -- What met says of what stands.
    is_near : (o : Option Standing) → z.standing ≡ o → word ≡ met → (r : Standing) × (z.standing ≡ Some r) × (r.cost ≤ z.ceiling) × ((path : List ℕ) (c : ℕ) → Route m path c → r.cost * z.q ≤ z.p * c)
    is_near None e at = absurd (never (λ cs life. let n = (after cs life).near at in none-some n.0 (sym e ∙ n.1)))
    is_near (Some r) e at = (
      r,
      e,
      decided (no_more r.cost z.ceiling) (λ cs life. let n = (after cs life).near at in subst (λ (x : Standing). x.cost ≤ z.ceiling) (same_Some n.0 r (sym n.1 ∙ e)) n.2),
      (λ path c route. decided (no_more (r.cost * z.q) (z.p * c)) (λ cs life. let n = (after cs life).near at in subst (λ (x : Standing). x.cost * z.q ≤ z.p * c) (same_Some n.0 r (sym n.1 ∙ e)) (n.3 path c route))),
    )

    -- Fewer moves than the budget are made by done or by met.
    stops : (w : Word) → word ≡ w → count < budget → (word ≡ done) ⊎ (word ≡ met)
    stops done e low = inl e
    stops met e low = inr e
    stops spent e low = absurd (never (λ cs life. elim ((after cs life).short low) [ inl d ↦ not_spent_done (sym e ∙ d) | inr d ↦ not_spent_met (sym e ∙ d) ]))

    pub surely_meant : Meant m budget word count z
    surely_meant = record {
      done_when = λ up. decided (the_word word done) (λ cs life. (after cs life).done_when up);
      done_only = λ e. decided (reached z.standing refl) (λ cs life. (after cs life).done_only e);
      best = λ e r stands low path c route. decided (no_more r.cost c) (λ cs life. (after cs life).best e r stands low path c route);
      none_within = λ e none path c route. decided (fewer z.ceiling c) (λ cs life. (after cs life).none_within e none path c route);
      near = is_near z.standing refl;
      spent_only = λ e. (
        decided (cases_eq count budget) (λ cs life. ((after cs life).spent_only e).0),
        (λ up. never (λ cs life. ((after cs life).spent_only e).1 up)),
        (λ near. never (λ cs life. ((after cs life).spent_only e).2 near)),
      );
      short = stops word refl;
      within_budget = decided (no_more count budget) (λ cs life. (after cs life).within_budget);
    }
