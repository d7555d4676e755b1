-- Solved examples of lives.
use Rattle.std.specs.Prelude.{◌≡◌, true, false, List, [], ◌∷◌, map, Some}
use Rattle.std.specs.List.{range_with_len}
use Rattle.maps.specs.Graph.{Graph}
use Rattle.lengths.specs.Kinds.{Kind, paces, gates}
use Rattle.walks.specs.Examples.{drawn, four_junctions, diamond}
use Rattle.calls.specs.Moments.{created, name_fault}
use Rattle.calls.specs.Lives.{Life, closed_by}
use Rattle.calls.specs.declared.Fault.TheVariants.{OffMap, AlreadyNamed, ListFull, SlotAbsent, AlreadyClosed, NotClosed, EndOffMap, StateLacks}
use Rattle.calls.specs.declared.Call.{Call}
use Rattle.calls.specs.declared.Call.TheVariants.{Name, Build, Close, Reopen, Ask, Tally, Replan}
use Rattle.calls.specs.declared.Answer.{Answer}
use Rattle.calls.specs.declared.Answer.TheVariants.{Done, Length, NoWay, Count, Refused}

-- calls, each with its answer
abbrev pub Rows : Type 0
Rows = List (Call × Answer)

abbrev pub calls_of : Rows → List Call
calls_of xs = map (λ x. x.0) xs

abbrev pub answers_of : Rows → List Answer
answers_of xs = map (λ x. x.1) xs

-- in a life over the map these calls have these answers
abbrev pub Lives : Kind → Graph → Rows → Type 0
Lives K G xs = Life K G created (calls_of xs) (answers_of xs)

-- 2 is named; street 2 is closed, then 4 too, then 2 is reopened
abbrev pub detours : Rows
detours =
    (Name 2, Done)
    ∷ (Build, Done)
    ∷ (Ask 1 4, Length 7 0)
    ∷ (Close 2, Done)
    ∷ (Ask 1 4, Length 10 1)
    ∷ (Close 2, Refused AlreadyClosed)
    ∷ (Close 4, Done)
    ∷ (Ask 1 4, NoWay 1)
    ∷ (Tally, Count 3)
    ∷ (Ask 3 3, Length 0 0)
    ∷ (Reopen 2, Done)
    ∷ (Ask 1 4, Length 7 0)
    ∷ []

-- no node is named; the empty walk has the kind's zero
abbrev pub widest : Rows
widest = (Build, Done) ∷ (Ask 1 4, Length 5 0) ∷ (Ask 1 1, Length 18446744073709551615 0) ∷ []

-- the closed street affects the tree of 1, though the length stays
abbrev pub survives : Rows
survives = (Name 1, Done) ∷ (Build, Done) ∷ (Close 3, Done) ∷ (Ask 1 4, Length 2 1) ∷ []

-- refusals; at replan closures and tally stay, and the transit list does not
abbrev pub refusals : Rows
refusals =
    (Ask 1 4, Refused StateLacks)
    ∷ (Name 0, Refused OffMap)
    ∷ (Name 5, Refused OffMap)
    ∷ (Name 2, Done)
    ∷ (Name 2, Refused AlreadyNamed)
    ∷ (Build, Done)
    ∷ (Name 1, Refused StateLacks)
    ∷ (Close 6, Refused SlotAbsent)
    ∷ (Close 2, Done)
    ∷ (Reopen 4, Refused NotClosed)
    ∷ (Ask 1 4, Length 10 1)
    ∷ (Ask 0 4, Refused EndOffMap)
    ∷ (Replan, Done)
    ∷ (Tally, Refused StateLacks)
    ∷ (Build, Done)
    ∷ (Ask 1 4, Length 10 0)
    ∷ (Tally, Count 2)
    ∷ []

pub record Solved : Type 0 where
  pub detours : Lives paces four_junctions detours
  pub widest : Lives gates four_junctions widest
  pub survives : Lives paces diamond survives
  pub refusals : Lives paces four_junctions refusals
  -- with sixteen named, off the map comes first, then named already, then the full list
  pub off_first : name_fault (drawn 17 []) (range_with_len 1 16) 18 ≡ Some OffMap
  pub named_next : name_fault (drawn 17 []) (range_with_len 1 16) 16 ≡ Some AlreadyNamed
  pub full_last : name_fault (drawn 17 []) (range_with_len 1 16) 17 ≡ Some ListFull
  -- a plan closes nothing, an index does, and a plan made of it reopens nothing
  pub by_plan : closed_by four_junctions (Close 2 ∷ []) 2 ≡ false
  pub by_index : closed_by four_junctions (Build ∷ Close 2 ∷ Close 2 ∷ Replan ∷ Reopen 2 ∷ []) 2 ≡ true
  pub no_street : closed_by four_junctions (Build ∷ Close 6 ∷ []) 6 ≡ false
