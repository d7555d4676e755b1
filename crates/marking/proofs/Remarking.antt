-- A street closed or reopened: the tables still fit, and the moment is the one after.
use Rattle.std.proofs.Common.{◌≡◌, ℕ, ◌-◌, ◌<◌, ◌≤◌, Bool, true, false, not, List, length, get_or, set, is_some, None, sym, refl, ap, ◌∙◌, subst, arith}
use Rattle.std.specs.List.{AllByRecursion}
use Rattle.std.proofs.Math.Bool.{beq}
use Rattle.std.proofs.ByRecursion.{All-from_get_or}
use Rattle.std.proofs.lemmas.Grind.{common_steps}
use Rattle.std.proofs.lemmas.Bool.Decides.{nat_tests}
use Rattle.maps.specs.Graph.{Graph, LawfulMap}
use Rattle.lengths.specs.Kinds.{Kind, LawfulKind}
use Rattle.walks.specs.Streets.{member}
use Rattle.walks.proofs.Runs.{lawful_is_coded}
use Rattle.asks.specs.Held.{bit, closed_held, marked}
use Rattle.asks.specs.Index.{tree_at, positions}
use Rattle.asks.specs.Claims.{NumbersByIndex}
use Rattle.asks.proofs.Numbers.{closed_held_le}
use Rattle.asks.proofs.Following.{numbers_follow_index}
use Rattle.asks.proofs.Positions.{index_inverts}
use Rattle.trees.specs.Marks.{closed_in}
use Rattle.trees.specs.Trees.{table_of}
use Rattle.trees.proofs.Closed.{closed_at, set_closed}
use Rattle.trees.proofs.Tables.{member_found}
use Rattle.calls.specs.Fitting.{FitsMap}
use Rattle.calls.specs.Moments.{with_mark, after}
use Rattle.calls.proofs.Fitting.{fits_after}
use Rattle.tables.specs.declared.Tables.{Tables}
use Rattle.tables.specs.declared.TreeRecord.{TreeRecord}
use Rattle.tables.specs.Tables.{transit_of, closed_of, moment_of, no_record, count_in, holders_in}
use Rattle.marking.specs.Marking.{Within, HasRoom, Recounted, mark_fault, mark_call}
use Rattle.tables.specs.Fits.{IndexFits}
use Rattle.tables.proofs.Fitting.{fits_built}

-- ---- slots of streets
pub street_slot : (G : Graph) → LawfulMap G → (e : ℕ) → is_some (G.street e) ≡ true → (0 < e) × (e ≤ 512)
street_slot G law e p = let more = law.no_more e in (grind (arith, common_steps), grind (arith, common_steps))

-- ---- there is no fault
other_mark : (a b : Bool) → beq a b ≡ false → a ≡ not b
other_mark a b h = grind (arith, common_steps, nat_tests)

mark_free : (b : Bool) (G : Graph) (F : ℕ → Bool) (e : ℕ) → is_some (G.street e) ≡ true → F e ≡ not b → mark_fault b G F e ≡ None
mark_free true G F e p mark = grind (arith, nat_tests)
mark_free false G F e p mark = grind (arith, nat_tests)

moment_after : (b : Bool) (G : Graph) (x y : Tables) (e : ℕ) → moment_of true y ≡ with_mark (moment_of true x) e b → mark_fault b G (closed_of x) e ≡ None
    → moment_of true y ≡ after G (moment_of true x) (mark_call b e)
moment_after true G x y e is free = rw free is
moment_after false G x y e is free = rw free is

-- ---- counts
same_trees : (b : Bool) (ps : List ℕ) (old new : List TreeRecord) → Recounted b ps old new → (i : ℕ) → (get_or new i no_record).tree ≡ (get_or old i no_record).tree
same_trees true ps old new r i = r.trees i
same_trees false ps old new r i = sym (r.trees i)

all_members : (P : ℕ → Type 0) (xs : List ℕ) → ((i : ℕ) → member xs i ≡ true → P i) → AllByRecursion P xs
all_members P xs h = All-from_get_or P xs 0 (λ k lt. h (get_or xs k 0) (member_found xs k (get_or xs k 0) lt refl))

module _ (K : Kind) (lawK : LawfulKind K) (G : Graph) (lawG : LawfulMap G) (x : Tables) (fits : IndexFits K G x) (e : ℕ) (here : is_some (G.street e) ≡ true) where
  slot : (0 < e) × (e ≤ 512)
  slot = street_slot G lawG e here

  row_is : holders_in x.holders e ≡ positions K G (transit_of x) e
  row_is = fits.stored.index e slot.0 slot.1

  -- a position in the row is one of the list
  in_list : (i : ℕ) → member (holders_in x.holders e) i ≡ true → (0 < i) × (i ≤ length (transit_of x))
  in_list i m =
      let t = ((index_inverts K lawK G (lawful_is_coded G lawG) (transit_of x) e).has i).0 (ap (λ ps. member ps i) (sym row_is) ∙ m) in
      (t.0, t.1)

  pub row_fits : Within (holders_in x.holders e)
  row_fits = record {
    positions = all_members (λ i. (0 < i) × (i ≤ 16)) (holders_in x.holders e) (λ i m. let t = in_list i m in let few = fits.plan.moment.few in (t.0, omega (arith, t.1, few)));
    rising = rw row_is (index_inverts K lawK G (lawful_is_coded G lawG) (transit_of x) e).rises;
  }

  bits : (i : ℕ) → bit (member (holders_in x.holders e) i) ≡ bit (member (positions K G (transit_of x) e) i)
  bits i = ap (λ ps. bit (member ps i)) row_is

  by_index : (i : ℕ) → 0 < i → i ≤ length (transit_of x) → NumbersByIndex K G (transit_of x) (closed_of x) e i
  by_index i some few =
      numbers_follow_index K lawK G (lawful_is_coded G lawG) (transit_of x) fits.plan.moment.all_on_map (closed_of x) e i slot.0 some few

  can_follow : (b : Bool) → closed_of x e ≡ not b → (i : ℕ) → member (holders_in x.holders e) i ≡ true → HasRoom b (count_in x.trees i)
  can_follow true mark i m =
      let t = in_list i m in
      omega (arith, fits.stored.counts i t.0 t.1, closed_held_le (closed_of x) (tree_at K G (transit_of x) i) G.junctions, lawG.few_junctions)
  can_follow false mark i m =
      let t = in_list i m in
      omega (arith, fits.stored.counts i t.0 t.1, (by_index i t.0 t.1).reopen mark, bits i, ap bit m)

  -- the counts after the call are those of the marks after it
  counts_after : (b : Bool) → closed_of x e ≡ not b → (new : List TreeRecord) → Recounted b (holders_in x.holders e) x.trees new → (i : ℕ) → 0 < i → i ≤ length (transit_of x)
      → count_in new i ≡ closed_held (marked (closed_of x) e b) (tree_at K G (transit_of x) i) G.junctions
  counts_after true mark new r i some few = omega (arith, fits.stored.counts i some few, r.counts i some, bits i, (by_index i some few).close mark)
  counts_after false mark new r i some few = omega (arith, fits.stored.counts i some few, r.counts i some, bits i, (by_index i some few).reopen mark)

  module _ (b : Bool) (apart : beq (get_or x.closed (e - 1) false) b ≡ false) where
    mark : closed_of x e ≡ not b
    mark = closed_at x.closed e slot.0 ∙ other_mark (get_or x.closed (e - 1) false) b apart

    pub row_room : (i : ℕ) → member (holders_in x.holders e) i ≡ true → HasRoom b (count_in x.trees i)
    row_room = can_follow b mark

    module _ (marks : length x.closed ≡ 512) (new : List TreeRecord) where
      -- the tables with the mark set and these trees
      abbrev pub remarked : Tables
      remarked = record { closed = set x.closed (e - 1) b; transit = x.transit; tally = x.tally; trees = new; legs = x.legs; holders = x.holders }

      pub marks_after : closed_in (set x.closed (e - 1) b) ≡ marked (closed_of x) e b
      marks_after = set_closed x.closed e b slot.0 (omega (arith, slot.1))

      pub remarked_moment : moment_of true remarked ≡ after G (moment_of true x) (mark_call b e)
      remarked_moment =
          moment_after b G x remarked e (ap (λ F. record { built = true; listed = transit_of x; closed = F; tally = x.tally }) marks_after)
          (mark_free b G (closed_of x) e here mark)

      pub remarked_fits : Recounted b (holders_in x.holders e) x.trees new → IndexFits K G remarked
      remarked_fits r = record {
        plan = record {
          moment = fits_built G true false remarked
              (subst (FitsMap G) (sym remarked_moment) (fits_after G (moment_of true x) (mark_call b e) (fits_built G false true x fits.plan.moment)));
        };
        stored = record {
          trees = λ i some few. ap table_of (same_trees b (holders_in x.holders e) x.trees new r (i - 1)) ∙ fits.stored.trees i some few;
          counts = λ i some few. counts_after b mark new r i some few ∙ ap (λ F. closed_held F (tree_at K G (transit_of x) i) G.junctions) (sym marks_after);
          places = fits.stored.places;
          legs = fits.stored.legs;
          rows = fits.stored.rows;
          index = fits.stored.index;
        };
      }
