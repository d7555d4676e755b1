-- Best ways from the start over two tables of legs whose rows are the same wherever the first one reaches.
use Rattle.std.proofs.Common.{◌≡◌, ℕ, ◌/◌, ◌%◌, List, [], ◌∷◌, ◌++◌, Some, None, Option, sym, refl, ap, ◌∙◌}
use Rattle.maps.specs.Graph.{Street}
use Rattle.lengths.specs.Kinds.{Kind, paces}
use Rattle.walks.specs.Streets.{Streets, empty_set}
use Rattle.walks.specs.Walks.{Walk, length_from, street_length, Leads, BestOpen}
use Rattle.walks.specs.Legs.{Legs, grid_at, grid}
use Rattle.walks.proofs.Facts.{none≢some, same_some}
use Rattle.walks.proofs.Walks.{all_open, walk_append}
use Rattle.walks.proofs.Filters.{walk_sub}
use Rattle.asks.specs.Claims.{AgreesWhereReached, PartialLegsAnswer}

-- a leg's slot says where it starts
pub grid_tail : (D : Legs) (e : ℕ) (a : Street) → grid D e ≡ Some a → a.0 ≡ e / 32
grid_tail D e a = go (D (e / 32) (e % 32))
  where
    go : (o : Option ℕ) → grid_at (e / 32) (e % 32) o ≡ Some a → a.0 ≡ e / 32
    go None s = absurd (none≢some refl s)
    go (Some l) s = sym (ap (λ (x : Street). x.0) (same_some refl s))

-- one leg more
pub leads_more : (g : Streets) (s e : ℕ) (a : Street) → g e ≡ Some a → Leads g empty_set s a.0 → Leads g empty_set s a.1
leads_more g s e a q h =
    let w = h.0 ++ e ∷ [] in (w, walk_append g s h.0 a.0 (e ∷ []) a.1 h.1 (a, q, refl, refl), all_open w)

-- a way of the same legs over the other table
pub record Same (K : Kind) (g : Streets) (h : Streets) (i : ℕ) (w : List ℕ) (t : ℕ) : Type 0 where
  pub leads : Walk h i w t
  pub long : (b : ℕ) → length_from K g b w ≡ length_from K h b w

-- what D reaches, every table that has the legs of D reaches
pub reach_grows : (D E : Legs) → ((i j l : ℕ) → D i j ≡ Some l → E i j ≡ Some l) → (v : ℕ) → Leads (grid D) empty_set 0 v → Leads (grid E) empty_set 0 v
reach_grows D E more v h = (h.0, walk_sub (grid D) (grid E) sub 0 h.0 v h.1, h.2)
  where
    sub : (e : ℕ) (a : Street) → grid D e ≡ Some a → grid E e ≡ Some a
    sub e a = go (D (e / 32) (e % 32)) refl
      where
        go : (o : Option ℕ) → D (e / 32) (e % 32) ≡ o → grid_at (e / 32) (e % 32) o ≡ Some a → grid E e ≡ Some a
        go None q s = absurd (none≢some refl s)
        go (Some l) q s = ap (grid_at (e / 32) (e % 32)) (more (e / 32) (e % 32) l q) ∙ s

module _ (K : Kind) (D E : Legs) (agrees : AgreesWhereReached D E) where
  same_row : (i e : ℕ) → Leads (grid D) empty_set 0 i → i ≡ e / 32 → grid D e ≡ grid E e
  same_row i e h p = ap (grid_at (e / 32) (e % 32)) (agrees (e / 32) (rw p at h) (e % 32))

  pub same_forth : (i : ℕ) (w : List ℕ) (t : ℕ) → Leads (grid D) empty_set 0 i → Walk (grid D) i w t → Same K (grid D) (grid E) i w t
  same_forth i [] t h l = record { leads = l; long = λ b. refl }
  same_forth i (e ∷ w) t h l =
      let a = l.0 in
      let q = same_row i e h (sym l.2 ∙ grid_tail D e a l.1) in
      let r = same_forth a.1 w t (leads_more (grid D) 0 e a l.1 (rw (← l.2) at h)) l.3 in
      record {
        leads = (a, sym q ∙ l.1, l.2, r.leads);
        long = λ b. r.long (K.join b (street_length K (grid D e))) ∙ ap (λ (o : Option Street). length_from K (grid E) (K.join b (street_length K o)) w) q;
      }

  pub same_back : (i : ℕ) (w : List ℕ) (t : ℕ) → Leads (grid D) empty_set 0 i → Walk (grid E) i w t → Same K (grid E) (grid D) i w t
  same_back i [] t h l = record { leads = l; long = λ b. refl }
  same_back i (e ∷ w) t h l =
      let a = l.0 in
      let q = same_row i e h (sym l.2 ∙ grid_tail E e a l.1) in
      let s = q ∙ l.1 in
      let r = same_back a.1 w t (leads_more (grid D) 0 e a s (rw (← l.2) at h)) l.3 in
      record {
        leads = (a, s, l.2, r.leads);
        long = λ b. r.long (K.join b (street_length K (grid E e))) ∙ ap (λ (o : Option Street). length_from K (grid D) (K.join b (street_length K o)) w) (sym q);
      }

  start : Leads (grid D) empty_set 0 0
  start = ([], refl, tt)

  pub partial_forth : (q : ℕ) (a : Option ℕ) → BestOpen K (grid D) empty_set 0 q a → BestOpen K (grid E) empty_set 0 q a
  partial_forth q None h = λ w l o. h w (same_back 0 w q start l).leads o
  partial_forth q (Some x) h =
      let y = h.0 in let z = same_forth 0 y.0 q start y.1 in (
        (y.0, z.leads, y.2, sym (z.long K.zero) ∙ y.3),
        λ w l o. let b = same_back 0 w q start l in rw (← b.long K.zero) at (h.1 w b.leads o),
      )

  pub partial_back : (q : ℕ) (a : Option ℕ) → BestOpen K (grid E) empty_set 0 q a → BestOpen K (grid D) empty_set 0 q a
  partial_back q None h = λ w l o. h w (same_forth 0 w q start l).leads o
  partial_back q (Some x) h =
      let y = h.0 in let z = same_back 0 y.0 q start y.1 in (
        (y.0, z.leads, y.2, sym (z.long K.zero) ∙ y.3),
        λ w l o. let b = same_forth 0 w q start l in rw (← b.long K.zero) at (h.1 w b.leads o),
      )

-- so the same nodes are reached; the kind is of no matter
module _ (D E : Legs) (agrees : AgreesWhereReached D E) (q : ℕ) where
  pub reach_forth : Leads (grid D) empty_set 0 q → Leads (grid E) empty_set 0 q
  reach_forth h = (h.0, (same_forth paces D E agrees 0 h.0 q ([], refl, tt) h.1).leads, h.2)

  pub reach_back : Leads (grid E) empty_set 0 q → Leads (grid D) empty_set 0 q
  reach_back h = (h.0, (same_back paces D E agrees 0 h.0 q ([], refl, tt) h.1).leads, h.2)

pub partial_legs_answer : PartialLegsAnswer
partial_legs_answer K D E agrees q a = record { whole = partial_forth K D E agrees q a; part = partial_back K D E agrees q a }
