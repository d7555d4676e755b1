-- The theorems about lives, for every lawful map and every lawful kind of length.
use Rattle.std.specs.Prelude.{◌≡◌, List}
use Rattle.maps.specs.Graph.{Graph, LawfulMap}
use Rattle.lengths.specs.Kinds.{Kind, LawfulKind}
use Rattle.calls.specs.Moments.{Moment, created, after}
use Rattle.calls.specs.Gives.{Gives}
use Rattle.calls.specs.Lives.{Life, after_all, built_by, closed_by}
use Rattle.calls.specs.Fitting.{FitsMap}
use Rattle.calls.specs.Promise.{LengthsBest, NoWaysExact, AnswersAgree, Promise}
use Rattle.calls.specs.declared.Fault.{Fault}
use Rattle.calls.specs.declared.Call.{Call}
use Rattle.calls.specs.declared.Answer.{Answer}
use Rattle.calls.specs.declared.Answer.TheVariants.{Refused}

-- what a life leads to fits its map
abbrev pub LivesFit : Type 0
LivesFit = (G : Graph) (cs : List Call) → FitsMap G (after_all G created cs)

-- a refused call changes nothing
abbrev pub RefusalsKeep : Type 0
RefusalsKeep = (K : Kind) (G : Graph) (m : Moment) (c : Call) (f : Fault) → Gives K G m c (Refused f) → after G m c ≡ m

-- plan or index, and which slots are closed, follow from the map and the calls alone
pub record Follows (G : Graph) (cs : List Call) : Type 0 where
  pub built : (after_all G created cs).built ≡ built_by cs
  pub closed : (after_all G created cs).closed ≡ closed_by G cs

abbrev pub ClosuresFollow : Type 0
ClosuresFollow = (G : Graph) (cs : List Call) → Follows G cs

-- every list of calls has a life
abbrev pub LivesExist : Type 0
LivesExist = (K : Kind) → LawfulKind K → (G : Graph) → LawfulMap G → (cs : List Call) → (rs : List Answer) × Life K G created cs rs

-- and only one: each call has one answer, its redone count included
abbrev pub LivesOnce : Type 0
LivesOnce = (K : Kind) → LawfulKind K → (G : Graph) → LawfulMap G → (cs : List Call) (rs ss : List Answer) → Life K G created cs rs → Life K G created cs ss → rs ≡ ss

-- in every life the lengths answered are best, and no way is answered exactly if there is none
pub record AsksRight (K : Kind) (G : Graph) (cs : List Call) (rs : List Answer) : Type 0 where
  pub lengths : LengthsBest K G cs rs
  pub no_ways : NoWaysExact G cs rs

abbrev pub AsksInLives : Type 0
AsksInLives = (K : Kind) (G : Graph) (cs : List Call) (rs : List Answer) → Life K G created cs rs → AsksRight K G cs rs

-- two lives over maps that are alike, with equal closes, reopens, asks and tallies, get equal answers to these apart from redone
abbrev pub TwoLives : Type 0
TwoLives = (K : Kind) → LawfulKind K → (G H : Graph) → LawfulMap G → (cs ds : List Call) (rs ss : List Answer)
    → Life K G created cs rs → Life K H created ds ss → AnswersAgree G H cs ds rs ss

-- from two lives the whole promise follows
abbrev pub PromiseKept : Type 0
PromiseKept = (K : Kind) → LawfulKind K → (G H : Graph) → LawfulMap G → (cs ds : List Call) (rs ss : List Answer)
    → Life K G created cs rs → Life K H created ds ss → Promise K G H cs ds rs ss
