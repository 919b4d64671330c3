mod Without
mod Same
mod Both
