-- The 32 special registers by their codes, which GET and PUT name.
-- (MMIXware, the part on MMIX, "Special registers": their codes; TAOCP 1, Fascicle 1, section 1.3.1'.)
use Rattle.std.specs.Prelude.{ℕ}

-- bootstrap register: what $255 had when a trip came
abbrev pub rB : ℕ
rB = 0

-- dividend register
abbrev pub rD : ℕ
rD = 1

-- epsilon register
abbrev pub rE : ℕ
rE = 2

-- himult register: the high half of a product
abbrev pub rH : ℕ
rH = 3

-- return-jump register
abbrev pub rJ : ℕ
rJ = 4

-- multiplex mask register
abbrev pub rM : ℕ
rM = 5

-- remainder register
abbrev pub rR : ℕ
rR = 6

-- bootstrap register of traps
abbrev pub rBB : ℕ
rBB = 7

-- cycle counter
abbrev pub rC : ℕ
rC = 8

-- serial number
abbrev pub rN : ℕ
rN = 9

-- register stack offset
abbrev pub rO : ℕ
rO = 10

-- register stack pointer
abbrev pub rS : ℕ
rS = 11

-- interval counter
abbrev pub rI : ℕ
rI = 12

-- trap address register
abbrev pub rT : ℕ
rT = 13

-- dynamic trap address register
abbrev pub rTT : ℕ
rTT = 14

-- interrupt mask register
abbrev pub rK : ℕ
rK = 15

-- interrupt request register
abbrev pub rQ : ℕ
rQ = 16

-- usage counter
abbrev pub rU : ℕ
rU = 17

-- virtual translation register
abbrev pub rV : ℕ
rV = 18

-- global threshold register
abbrev pub rG : ℕ
rG = 19

-- local threshold register
abbrev pub rL : ℕ
rL = 20

-- arithmetic status register
abbrev pub rA : ℕ
rA = 21

-- failure location register
abbrev pub rF : ℕ
rF = 22

-- prediction register
abbrev pub rP : ℕ
rP = 23

-- where-interrupted register of trips
abbrev pub rW : ℕ
rW = 24

-- execution register of trips
abbrev pub rX : ℕ
rX = 25

-- Y operand register of trips
abbrev pub rY : ℕ
rY = 26

-- Z operand register of trips
abbrev pub rZ : ℕ
rZ = 27

-- where-interrupted register of traps
abbrev pub rWW : ℕ
rWW = 28

-- execution register of traps
abbrev pub rXX : ℕ
rXX = 29

-- Y operand register of traps
abbrev pub rYY : ℕ
rYY = 30

-- Z operand register of traps
abbrev pub rZZ : ℕ
rZZ = 31
