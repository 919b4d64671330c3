mod Equations
