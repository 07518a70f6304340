-- What is wrong with a packet. 01, "What a call answers", 10 to 17: 0 where it is read, and else 100 times the number of the refusal plus two digits
-- for the part of its condition that holds, the first in the paper's order.
use Rattle.std.specs.Prelude.{ℕ, ◌+◌, ◌-◌, List, true, false, not, ◌&&◌, ◌||◌, length, get_or, drop, ltb, leb, eqb}
use Rattle.octets.specs.Choice.{pick}
use Rattle.octets.specs.Lists.{part}
use Rattle.octets.specs.Octets.{octet_is, stands_at, number_at, hex_stands, digits, number}
use Rattle.octets.specs.declared.Order.TheVariants.{Big}
use Rattle.answer.specs.Sizes.{max_packet, max_name}
use Rattle.packet.specs.declared.End.{End}
use Rattle.packet.specs.Forms.{challenge_name_at, response_name_at, success_tail_at, word_s, word_e, word_r, word_c, word_v, word_m, eight_zeros}
use Rattle.packet.specs.Frame.{code_of, length_of, cut_of, with_type}
use Rattle.packet.specs.Reader.{error_digits, code_for}

-- ---- 17 "the rest breaks its form above". q is a packet, cut at L
-- "Value-Size 16 at 9, challenge 10..25, name from 26, one octet or more"
unfoldable pub challenge_fault : List ℕ → ℕ
challenge_fault q =
    pick (leb (length q) challenge_name_at) 1710
    (pick (not (octet_is q 9 16)) 1711
    0)

-- "Value-Size 49 at 9, peer challenge 10..25, eight zeros 26..33, NT-Response 34..57, flags 58 zero, name from 59, 0 to 256 octets"
unfoldable pub response_fault : List ℕ → ℕ
response_fault q =
    pick (ltb (length q) response_name_at) 1720
    (pick (ltb (response_name_at + max_name) (length q)) 1721
    (pick (not (octet_is q 9 49)) 1722
    (pick (not (stands_at q 26 eight_zeros)) 1723
    (pick (not (octet_is q 58 0)) 1724
    0))))

-- "`S=`, 40 hex digits with A to F in upper case", and 02 [1]: "After the digits either nothing follows, or ` M=` and any octets"
unfoldable pub success_fault : List ℕ → ℕ
success_fault q =
    pick (not (stands_at q 9 word_s)) 1730
    (pick (not (hex_stands false q 11 40)) 1731
    (pick (eqb (length q) success_tail_at) 0
    (pick (not (stands_at q success_tail_at word_m)) 1732
    0)))

-- "`E=` 1 to 10 digits, ` R=` 0 or 1, ` C=` 32 hex digits of either case, ` V=` 1 to 10 digits whose number is 3, ` M=`, then any octets or
-- none": e digits after `E=`, and v after ` V=`. First what is wrong from ` C=` on
unfoldable pub rest_fault : List ℕ → ℕ → ℕ → ℕ
rest_fault q e v =
    pick (not (stands_at q (15 + e) word_c)) 1744
    (pick (not (hex_stands true q (18 + e) 32)) 1745
    (pick (not (stands_at q (50 + e) word_v)) 1746
    (pick (not ((leb 1 v && leb v 10) && eqb (number (part q (53 + e) v)) 3)) 1747
    (pick (not (stands_at q (53 + e + v) word_m)) 1748
    0))))

unfoldable pub message_fault : List ℕ → ℕ → ℕ → ℕ
message_fault q e v =
    pick (not (stands_at q 9 word_e)) 1740
    (pick (not (leb 1 e && leb e 10)) 1741
    (pick (not (stands_at q (11 + e) word_r)) 1742
    (pick (not (octet_is q (14 + e) 48 || octet_is q (14 + e) 49)) 1743
    (rest_fault q e v))))

unfoldable pub failure_fault : List ℕ → ℕ
failure_fault q = message_fault q (error_digits q) (digits (drop (53 + error_digits q) q))

-- "L = 6, nothing after OpCode"; "L = 4"
unfoldable pub bare_fault : List ℕ → ℕ → ℕ → ℕ
bare_fault q l fault = pick (not (eqb (length q) l)) fault 0

-- ---- 16 "L under 9, or MS-Length not L - 5 (first four packets)", and then what is wrong with the form
unfoldable pub chap_fault : List ℕ → ℕ → ℕ
chap_fault q form =
    pick (ltb (length q) 9) 1600
    (pick (not (eqb (number_at Big q 7) (length q - 5))) 1601
    form)

-- ---- 13 to 15
-- "not one of the table for that Code": the OpCodes of Code 1, and of Code 2
unfoldable pub request_fault : ℕ → List ℕ → ℕ
request_fault op q =
    pick (eqb op 1) (chap_fault q (challenge_fault q))
    (pick (eqb op 3) (chap_fault q (success_fault q))
    (pick (eqb op 4) (chap_fault q (failure_fault q))
    1501))

unfoldable pub reply_fault : ℕ → List ℕ → ℕ
reply_fault op q =
    pick (eqb op 2) (chap_fault q (response_fault q))
    (pick (eqb op 3) (bare_fault q 6 1701)
    (pick (eqb op 4) (bare_fault q 6 1701)
    1501))

-- 14 "Code 1 or 2 and no Type octet, or Type not 26", 15 "no OpCode"
unfoldable pub typed_fault : ℕ → List ℕ → ℕ
typed_fault code q =
    pick (ltb (length q) 5) 1400
    (pick (not (octet_is q 4 26)) 1401
    (pick (ltb (length q) 6) 1500
    (pick (eqb code 1) (request_fault (get_or q 5 0) q)
    (reply_fault (get_or q 5 0) q))))

-- 13 "Code not for this end"; EAP Success and Failure have no Type
unfoldable pub code_fault : End → ℕ → List ℕ → ℕ
code_fault end code q =
    pick (not (code_for end code)) 1300
    (pick (not (with_type code)) (bare_fault q 4 1700)
    (typed_fault code q))

-- ---- 10 "fewer than 4 octets lent", 11 "L under 4 or over the octets lent", 12 "L over 1,020"
unfoldable pub fault_of : End → List ℕ → ℕ
fault_of end p =
    pick (ltb (length p) 4) 1000
    (pick (ltb (length_of p) 4) 1100
    (pick (ltb (length p) (length_of p)) 1101
    (pick (ltb max_packet (length_of p)) 1200
    (code_fault end (code_of (cut_of p)) (cut_of p)))))
