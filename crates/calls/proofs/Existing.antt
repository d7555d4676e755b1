-- Every list of calls has a life; its answers compute.
use Rattle.std.proofs.Common.{◌≡◌, ℕ, suc, Bool, true, false, cond, ◌⊎◌, List, [], ◌∷◌, is_some, Some, None, Ok, Err, Option, Result, refl, inl, inr, ⊎_elim}
use Rattle.std.specs.List.{AllByRecursion}
use Rattle.maps.specs.Graph.{Graph, LawfulMap}
use Rattle.lengths.specs.Kinds.{Kind, LawfulKind}
use Rattle.walks.specs.Streets.{Coded}
use Rattle.walks.specs.Walks.{Leads}
use Rattle.walks.specs.Runs.{best_length}
use Rattle.walks.specs.Trees.{Tells, OnMap, tree, Affected, affected_up_to}
use Rattle.walks.proofs.Runs.{lawful_is_coded, run_answers}
use Rattle.walks.proofs.OneAnswer.{answer_leads}
use Rattle.walks.proofs.Unaffected.{affected_by_test}
use Rattle.asks.specs.Redone.{Counted, Redone}
use Rattle.calls.specs.Moments.{Moment, created, name_fault, close_fault, reopen_fault, ask_fault, after}
use Rattle.calls.specs.Gives.{said, Replied, answer_of, RightAnswer, Gives}
use Rattle.calls.specs.Lives.{Life}
use Rattle.calls.specs.Fitting.{FitsMap}
use Rattle.calls.specs.Claims.{LivesExist}
use Rattle.calls.specs.declared.Fault.{Fault}
use Rattle.calls.specs.declared.Fault.TheVariants.{StateLacks}
use Rattle.calls.specs.declared.Call.{Call}
use Rattle.calls.specs.declared.Call.TheVariants.{Name, Build, Close, Reopen, Ask, Tally, Replan}
use Rattle.calls.specs.declared.Answer.{Answer}
use Rattle.calls.specs.declared.Answer.TheVariants.{Done, Count, Refused}
use Rattle.calls.specs.declared.Reply.{Reply}
use Rattle.calls.proofs.Fitting.{fits_after, fits_created, zero_open}

-- ---- counts
abbrev told_apart : (b : Bool) (P : Type 0) → Tells b P → P ⊎ (P → ⊥)
told_apart true P t = inl (t.0 refl)
told_apart false P t = inr (t.1 refl)

abbrev both_told : (P Q : Type 0) → P ⊎ (P → ⊥) → Q ⊎ (Q → ⊥) → (P × Q) ⊎ ((P × Q) → ⊥)
both_told P Q p q = ⊎_elim (λ x. ⊎_elim (λ y. inl (x, y)) (λ n. inr (λ z. n z.1)) q) (λ n. inr (λ z. n z.0)) p

-- what is told of each number of a list is counted
abbrev pub counted : (P : ℕ → Type 0) (xs : List ℕ) → AllByRecursion (λ x. P x ⊎ (P x → ⊥)) xs → (r : ℕ) × Counted P xs r
counted P [] h = (0, refl)
counted P (x ∷ xs) h =
    let c = counted P xs h.1 in
    ⊎_elim (λ p. (suc c.0, inl (p, (c.0, refl, c.1)))) (λ n. (c.0, inr (n, c.1))) h.0

abbrev all_of : (P Q : ℕ → Type 0) → ((x : ℕ) → P x → Q x) → (xs : List ℕ) → AllByRecursion P xs → AllByRecursion Q xs
all_of P Q f [] h = tt
all_of P Q f (x ∷ xs) h = (f x h.0, all_of P Q f xs h.1)

-- ---- answers
module _ (K : Kind) (law : LawfulKind K) (G : Graph) (map : LawfulMap G) where
  pub coded : Coded G
  coded = lawful_is_coded G map

  abbrev pub redone_exists : (ns : List ℕ) → AllByRecursion (OnMap G) ns → (F : ℕ → Bool) → F 0 ≡ false → (s : ℕ) → (r : ℕ) × Redone K G ns F s r
  redone_exists ns on F z s =
      counted (λ v. Leads G.street F s v × Affected F (tree K G ns v)) ns
      (all_of (OnMap G) (λ v. (Leads G.street F s v × Affected F (tree K G ns v)) ⊎ ((Leads G.street F s v × Affected F (tree K G ns v)) → ⊥))
      (λ v o. both_told (Leads G.street F s v) (Affected F (tree K G ns v))
      (told_apart (is_some (best_length K G F s v)) (Leads G.street F s v) (answer_leads K G.street F s v (best_length K G F s v) (run_answers K law G coded F s v)))
      (told_apart (affected_up_to F (tree K G ns v) G.junctions) (Affected F (tree K G ns v)) (affected_by_test K law G coded ns F z v o)))
      ns on)

  abbrev reply : (m : Moment) → FitsMap G m → (s t : ℕ) (o : Option Fault) → ask_fault G s t ≡ o → (r : Result Reply Fault) × Replied K G m s t r
  reply m h s t (Some f) q = (Err f, q)
  reply m h s t None q =
      let d = redone_exists m.listed h.all_on_map m.closed (zero_open G m map h) s in
      (Ok (record { length = best_length K G m.closed s t; redone = d.0 }), (q, (run_answers K law G coded m.closed s t, d.1)))

  abbrev asked : (b : Bool) (m : Moment) → FitsMap G m → (s t : ℕ) → (a : Answer) × cond b (RightAnswer K G m s t a) (a ≡ Refused StateLacks)
  asked true m h s t = let r = reply m h s t (ask_fault G s t) refl in (answer_of r.0, (r.0, r.1, refl))
  asked false m h s t = (Refused StateLacks, refl)

  abbrev pub gives_some : (m : Moment) → FitsMap G m → (c : Call) → (a : Answer) × Gives K G m c a
  gives_some m h (Name v) = (cond m.built (Refused StateLacks) (said (name_fault G m.listed v)), refl)
  gives_some m h Build = (cond m.built (Refused StateLacks) Done, refl)
  gives_some m h (Close e) = (cond m.built (said (close_fault G m.closed e)) (Refused StateLacks), refl)
  gives_some m h (Reopen e) = (cond m.built (said (reopen_fault G m.closed e)) (Refused StateLacks), refl)
  gives_some m h (Ask s t) = asked m.built m h s t
  gives_some m h Tally = (cond m.built (Count m.tally) (Refused StateLacks), refl)
  gives_some m h Replan = (cond m.built Done (Refused StateLacks), refl)

  abbrev life_from : (cs : List Call) (m : Moment) → FitsMap G m → (rs : List Answer) × Life K G m cs rs
  life_from [] m h = ([], tt)
  life_from (c ∷ cs) m h =
      let a = gives_some m h c in
      let r = life_from cs (after G m c) (fits_after G m c h) in
      (a.0 ∷ r.0, (a.1, r.1))

abbrev pub lives_exist : LivesExist
lives_exist K law G map cs = life_from K law G map cs created (fits_created G)
