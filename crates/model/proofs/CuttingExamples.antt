-- Examples of packed Listeners (02), computed: where a threshold for gaps, or extending a vector as far as it pays, gives something
-- else; and the octets of Ignores.
use mathlib.Core.Path.{refl}
use mathlib.Core.List.{List, [], ◌∷◌, ◌++◌, map}
use mathlib.Core.Bool.{true, false}
use Prim.Native.Nat.{ℕ}
use lib.ListN.{length}
use Rattle.octets.specs.Parts.{zeros}
use Rattle.model.specs.Lists.{All}
use Rattle.model.specs.State.{Ready, ready, asking_failed, ready_failed}
use Rattle.model.specs.Cutting.{values}
use Rattle.model.specs.Best.{best, least, run}
use Rattle.model.specs.Declarations.{Said, listener_declaration}
use Rattle.model.specs.WrittenFrames.{pdu_octets}
use Rattle.model.proofs.Opened.{opened}
use Rattle.model.proofs.Examples.{Example, Holds}

-- the declarations and the values of each vector, and the least octets
cut : List ℕ → List (List ℕ)
cut l = map length (best l) ∷ map values (best l) ∷ (least l ∷ []) ∷ []

flattened : List (List ℕ) → List ℕ
flattened [] = []
flattened (a ∷ l) = a ++ flattened l

-- Listeners with these Unique IDs, and the number of an event
hearing : ℕ → Ready → List ℕ → List Said
hearing e r l = map (λ (u : ℕ). record { declaration = listener_declaration u r; event = e }) l

pub cuttings : List Example
cuttings =
    -- [1-2] [25], where every gap of up to 22 filled takes 26 octets
    record { computed = flattened (cut (1 ∷ 2 ∷ 25 ∷ [])); printed = 2 ∷ 1 ∷ 2 ∷ 1 ∷ 24 ∷ [] }
    -- [1] [22-25], where a vector lengthened as far as that pays takes 26 octets
    ∷ record { computed = flattened (cut (1 ∷ 22 ∷ 25 ∷ [])); printed = 1 ∷ 2 ∷ 1 ∷ 4 ∷ 25 ∷ [] }
    -- [1-2] [22-25], where every gap of up to 19 filled takes 26 octets
    ∷ record { computed = flattened (cut (1 ∷ 2 ∷ 22 ∷ 25 ∷ [])); printed = 2 ∷ 2 ∷ 2 ∷ 4 ∷ 25 ∷ [] }
    -- "on a tie take the fewest vectors": [1-22]
    ∷ record { computed = flattened (cut (1 ∷ 22 ∷ [])); printed = 2 ∷ 22 ∷ 24 ∷ [] }
    -- "then the one with most values in the first vector": [1-22] [45]
    ∷ record { computed = flattened (cut (1 ∷ 22 ∷ 45 ∷ [])); printed = 2 ∷ 1 ∷ 22 ∷ 1 ∷ 36 ∷ [] }
    -- vectors count before values: [1] [24-67], not [1-24] [43-45] [67]
    ∷ record { computed = flattened (cut (1 ∷ 24 ∷ 43 ∷ 45 ∷ 67 ∷ [])); printed = 1 ∷ 4 ∷ 1 ∷ 44 ∷ 48 ∷ [] }
    -- Unique ID FFFF and the next MAC's 0000 are neighbours, but of two MACs
    ∷ record { computed = flattened (cut (65534 ∷ 65535 ∷ 65536 ∷ [])); printed = 2 ∷ 1 ∷ 2 ∷ 1 ∷ 24 ∷ [] }
    -- 35 octets have room for the first two of three, 36 for all
    ∷ record { computed = run 35 (1 ∷ 22 ∷ 45 ∷ []) ∷ run 36 (1 ∷ 22 ∷ 45 ∷ []) ∷ []; printed = 2 ∷ 3 ∷ [] }
    ∷ []

pub frames : List Example
frames =
    -- 1 Ready and 3 Asking Failed: JoinMt, Ignore with event 0, JoinMt
    record {
      computed = pdu_octets false (hearing 3 ready (1 ∷ []) ++ hearing 3 asking_failed (3 ∷ []));
      printed =
          0 ∷ 3 ∷ 8 ∷ 0 ∷ 14 ∷ 0 ∷ 3 ∷ 0 ∷ 0 ∷ 0 ∷ 0 ∷ 0 ∷ 0 ∷ 0 ∷ 1 ∷ 0x6f ∷ 0x84 ∷ 0 ∷ 0 ∷ 0 ∷ 0 ∷ [];
    }
    -- 1 and 4: spare positions are 0 too
    ∷ record {
      computed = pdu_octets false (hearing 3 ready (1 ∷ []) ++ hearing 3 ready_failed (4 ∷ []));
      printed =
          0 ∷ 3 ∷ 8 ∷ 0 ∷ 15 ∷ 0 ∷ 4 ∷ 0 ∷ 0 ∷ 0 ∷ 0 ∷ 0 ∷ 0 ∷ 0 ∷ 1 ∷ 0x6c ∷ 0x6c ∷ 0x83 ∷ 0 ∷ 0 ∷ 0 ∷ 0 ∷ [];
    }
    -- one alone
    ∷ record {
      computed = pdu_octets false (hearing 3 ready (1 ∷ []));
      printed = 0 ∷ 3 ∷ 8 ∷ 0 ∷ 14 ∷ 0 ∷ 1 ∷ 0 ∷ 0 ∷ 0 ∷ 0 ∷ 0 ∷ 0 ∷ 0 ∷ 1 ∷ 0x6c ∷ 0x80 ∷ 0 ∷ 0 ∷ 0 ∷ 0 ∷ [];
    }
    -- each value has its own event: New of 1, JoinIn of 2, Lv of 4 with its last type, which ends the vector; 3 is a gap
    ∷ record {
      computed = pdu_octets false (hearing 0 ready (1 ∷ []) ++ (hearing 1 asking_failed (2 ∷ []) ++ hearing 5 ready_failed (4 ∷ [])));
      printed =
          0 ∷ 3 ∷ 8 ∷ 0 ∷ 15 ∷ 0 ∷ 4 ∷ 0 ∷ 0 ∷ 0 ∷ 0 ∷ 0 ∷ 0 ∷ 0 ∷ 1 ∷ 0x06 ∷ 0xb4 ∷ 0x93 ∷ 0 ∷ 0 ∷ 0 ∷ 0 ∷ [];
    }
    -- LeaveAll with In of 1: LeaveAllEvent 1 in the first vector of each type, without values for the three that have none here
    ∷ record {
      computed = pdu_octets true (hearing 2 ready (1 ∷ []));
      printed =
          0
          ∷ (1 ∷ 25 ∷ 0 ∷ 29 ∷ 0x20 ∷ 0 ∷ [])
          ++ (zeros 25
          ++ (0 ∷ 0 ∷ 2 ∷ 34 ∷ 0 ∷ 38 ∷ 0x20 ∷ 0 ∷ [])
          ++ (zeros 34
          ++ (0 ∷ 0 ∷ 3 ∷ 8 ∷ 0 ∷ 14 ∷ 0x20 ∷ 1 ∷ 0 ∷ 0 ∷ 0 ∷ 0 ∷ 0 ∷ 0 ∷ 0 ∷ 1 ∷ 0x48 ∷ 0x80 ∷ 0 ∷ 0 ∷ [])
          ++ ((4 ∷ 4 ∷ 0 ∷ 8 ∷ 0x20 ∷ 0 ∷ []) ++ (zeros 4 ++ (0 ∷ 0 ∷ 0 ∷ 0 ∷ [])))));
    }
    -- LeaveAll alone has 106 octets
    ∷ record { computed = length (pdu_octets true []) ∷ []; printed = 106 ∷ [] }
    ∷ []

pub cutting-examples : All Holds cuttings
unfolding opened cuttings cut flattened
cutting-examples = (refl, (refl, (refl, (refl, (refl, (refl, (refl, (refl, tt))))))))

pub frame-examples : All Holds frames
unfolding opened frames hearing
frame-examples = (refl, (refl, (refl, (refl, (refl, (refl, tt))))))
